-- Differences of points. This project's own.
use Rattle.std.specs.Prelude.{List, [], ◌∷◌, map, ℤ, ◌-ℤ◌}

-- the difference of two vectors of one length
abbrev pub difference : List ℤ → List ℤ → List ℤ
difference [] q = []
difference (a ∷ p) [] = []
difference (a ∷ p) (b ∷ q) = (a -ℤ b) ∷ difference p q

-- the differences of the other points and the first
abbrev pub differences : List (List ℤ) → List (List ℤ)
differences [] = []
differences (p ∷ points) = map (λ q. difference q p) points
