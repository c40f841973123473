-- The size of a list of points: the sum over the coordinates of the largest absolute value in that coordinate. This project's own.
use Rattle.std.specs.Prelude.{ℕ, zero, suc, ◌+◌, max, List, [], ◌∷◌, ℤ, nat_abs}
use Rattle.lattice_theory.specs.Vector.{entry}

-- the largest absolute value in the coordinate i
abbrev pub reach : List (List ℤ) → ℕ → ℕ
reach [] i = 0
reach (p ∷ points) i = max (nat_abs (entry p i)) (reach points i)

-- the size of points with n coordinates
abbrev pub size : ℕ → List (List ℤ) → ℕ
size zero points = 0
size (suc n) points = size n points + reach points n

-- the sum of the absolute values of the entries of one vector
abbrev pub absolute_sum : List ℤ → ℕ
absolute_sum [] = 0
absolute_sum (a ∷ x) = nat_abs a + absolute_sum x
