-- Sets of numbers, as lists of truth values: a number is in the set where the list is true at its place. This project's own.
use Rattle.std.specs.Prelude.{◌≢◌, ℕ, zero, suc, Bool, true, false, not, cond, ◌&&◌, ◌||◌, List, [], ◌∷◌, IsTrue}

-- whether the number is in the set
abbrev pub in_set : List Bool → ℕ → Bool
in_set [] i = false
in_set (b ∷ set) zero = b
in_set (b ∷ set) (suc i) = in_set set i

-- each number of a is in b
abbrev pub IsPart : List Bool → List Bool → Type 0
IsPart a b = (i : ℕ) → IsTrue (in_set a i) → IsTrue (in_set b i)

-- and a isn't b
abbrev pub IsProperPart : List Bool → List Bool → Type 0
IsProperPart a b = IsPart a b × (a ≢ b)

-- the same from above
abbrev pub IsProperWhole : List Bool → List Bool → Type 0
IsProperWhole a b = IsProperPart b a

-- the numbers below n that pass a test
abbrev pub numbers_with : ℕ → (ℕ → Bool) → List Bool
numbers_with zero test = []
numbers_with (suc n) test = test 0 ∷ numbers_with n (λ i. test (suc i))

-- the numbers that are in both sets
abbrev pub common : List Bool → List Bool → List Bool
common [] b = []
common (x ∷ a) [] = []
common (x ∷ a) (y ∷ b) = (x && y) ∷ common a b

-- how many numbers are in the set
abbrev pub set_size : List Bool → ℕ
set_size [] = 0
set_size (b ∷ set) = cond b (suc (set_size set)) (set_size set)

-- whether two sets are the same, and whether each number of a is in b
abbrev pub is_same : List Bool → List Bool → Bool
is_same [] [] = true
is_same [] (y ∷ b) = false
is_same (x ∷ a) [] = false
is_same (x ∷ a) (y ∷ b) = cond x y (not y) && is_same a b

abbrev pub is_part : List Bool → List Bool → Bool
is_part [] b = true
is_part (x ∷ a) [] = not x && is_part a []
is_part (x ∷ a) (y ∷ b) = (not x || y) && is_part a b

-- whether a is in b and isn't b, and the same from above
abbrev pub is_proper_part : List Bool → List Bool → Bool
is_proper_part a b = is_part a b && not (is_same a b)

abbrev pub is_proper_whole : List Bool → List Bool → Bool
is_proper_whole a b = is_proper_part b a
