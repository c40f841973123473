-- The dimension of points. This project's own.
use Rattle.std.specs.Prelude.{ℕ, List, [], ◌∷◌, length, ℤ}

-- the number of coordinates of the first point, which is that of all points of one dimension; 0 where there is no point
abbrev pub dimension_of : List (List ℤ) → ℕ
dimension_of [] = 0
dimension_of (p ∷ points) = length p
