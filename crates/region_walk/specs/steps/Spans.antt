-- The values of one coordinate at which functions are nonnegative. This project's own.
use Rattle.std.specs.Prelude.{List, ℤ, pos, ◌≤ℤ◌}
use Rattle.std.specs.List.{All}
use Rattle.lattice_theory.specs.Affine.{Affine, value}

-- v is from low to high
abbrev pub IsBetween : ℤ → ℤ → ℤ → Type 0
IsBetween low high v = (low ≤ℤ v) × (v ≤ℤ high)

-- no function is negative at the vector
abbrev pub AreNonnegativeAt : List Affine → List ℤ → Type 0
AreNonnegativeAt functions x = All (λ f. pos 0 ≤ℤ value f x) functions
