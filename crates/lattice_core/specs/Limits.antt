-- How large the numbers of an item may be. This project's own.
use Rattle.std.specs.Prelude.{ℕ, ◌≤◌, List, ℤ}
use Rattle.lattice_theory.specs.Size.{size}
use Rattle.normal_bounds.specs.Bounds.{safe_size}

-- the largest size that points with n coordinates may have, for n from 1
-- to 6: the one up to which all numbers fit. There is none for another n.
abbrev pub size_limit_of : ℕ → ℕ
size_limit_of n = safe_size n

-- the size of the points is within the limit of their dimension
abbrev pub IsSized : ℕ → List (List ℤ) → Type 0
IsSized n points = size n points ≤ size_limit_of n
