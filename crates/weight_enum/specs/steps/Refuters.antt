-- Linear functions that refute. This project's own.
use Rattle.std.specs.Prelude.{◌≡◌, ℕ, ◌≤◌, ◌^◌, Bool, true, false, Option, Some, None, List, length, ℤ, pos, nat_abs, ⊤}
use Rattle.std.specs.List.{All}
use Rattle.lattice_theory.specs.Affine.{Affine}
use Rattle.interior_point_theory.specs.Certificates.{IsRefuter, IsSurrounded}

-- f is linear, has n coordinates, and entries up to 2^40 in size
pub record IsSmallLinear (n : ℕ) (f : Affine) : Type 0 where
  pub linear : f.constant ≡ pos 0
  pub dimension : length f.normal ≡ n
  pub small : All (λ a. nat_abs a ≤ 2 ^ 40) f.normal

-- some linear function refutes that the points are around the origin
abbrev pub HasRefuter : ℕ → List (List ℤ) → Type 0
HasRefuter n points = (f : List ℤ) × IsRefuter n points f

-- what is told of points: they are surrounded, a linear function refutes them, or nothing
abbrev pub IsVerdict : ℕ → List (List ℤ) → Option Bool → Type 0
IsVerdict n points (Some true) = IsSurrounded n points
IsVerdict n points (Some false) = HasRefuter n points
IsVerdict n points None = ⊤
