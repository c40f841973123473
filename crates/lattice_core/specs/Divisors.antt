-- The primitive vector of which a vector is a multiple. This project's own.
use Rattle.std.specs.Prelude.{◌≡◌, ℕ, ◌<◌, List, ℤ, pos}
use Rattle.lattice_theory.specs.Vector.{scaled, IsPrimitive}

-- v is a positive multiple of w, whose entries have greatest common divisor 1
pub record IsPrimitivePart (v w : List ℤ) : Type 0 where
  pub factor : ℕ
  pub positive : 0 < factor
  pub primitive : IsPrimitive w
  pub multiple : scaled (pos factor) w ≡ v
