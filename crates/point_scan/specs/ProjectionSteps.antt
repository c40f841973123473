-- Bounds of a polytope. This project's own.
use Rattle.std.specs.Prelude.{◌≡◌, ℕ, ◌<◌, ◌≤◌, ◌^◌, List, length, ℤ, pos, nat_abs, ◌*ℤ◌, ◌-ℤ◌}
use Rattle.lattice_theory.specs.Vector.{entry}
use Rattle.lattice_theory.specs.Affine.{Affine, IsNonnegative}

-- a function of n coordinates that is nonnegative at the points, with a constant that is small enough
pub record IsBound (n : ℕ) (points : List (List ℤ)) (f : Affine) : Type 0 where
  pub dimension : length f.normal ≡ n
  pub nonnegative : IsNonnegative points f
  pub small : nat_abs f.constant ≤ 2 ^ 100

-- a positive multiple of the normal is a sum of multiples of both normals that is 0 at the place k, each multiplied by the other one's entry there
pub record IsElimination (rising falling : List ℤ) (k : ℕ) (normal : List ℤ) : Type 0 where
  pub dimension : length normal ≡ length rising
  pub factor : ℕ
  pub positive : 0 < factor
  pub entries : (i : ℕ) → i < length rising
      → pos factor *ℤ entry normal i ≡ entry rising k *ℤ entry falling i -ℤ entry falling k *ℤ entry rising i
