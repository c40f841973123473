-- Searches in lexicographic order: the next vector of a set, and the vectors of a box as a list. This project's own.
use Rattle.std.specs.Prelude.{◌≡◌, ℕ, zero, suc, ◌<◌, ◌⊎◌, Bool, true, false, cond, not, List, [], ◌∷◌, ◌++◌, length, map, ℤ, pos, negsuc, ◌+ℤ◌, ◌-ℤ◌, ◌≤ℤ◌, int_lt}
use Rattle.std.specs.List.{filter}
use Rattle.lattice_theory.specs.Vector.{entry}
use Rattle.lattice_theory.specs.Order.{LexLess}

-- y begins with the same k entries as x
abbrev pub AgreesTo : ℕ → List ℤ → List ℤ → Type 0
AgreesTo k x y = (i : ℕ) → i < k → entry y i ≡ entry x i

-- x comes before y, or is y
abbrev pub LexAtMost : List ℤ → List ℤ → Type 0
LexAtMost x y = LexLess x y ⊎ (x ≡ y)

-- of the vectors of which P holds, y is the first that comes after x
pub record IsNext (P : List ℤ → Type 0) (x y : List ℤ) : Type 0 where
  pub holds : P y
  pub later : LexLess x y
  pub first : (z : List ℤ) → P z → LexLess x z → LexAtMost y z

-- a step in order: with the answer true y is the next one, and with the answer false none comes after x
abbrev pub Follows : (List ℤ → Type 0) → List ℤ → List ℤ → Bool → Type 0
Follows P x y true = IsNext P x y
Follows P x y false = (z : List ℤ) → P z → LexLess x z → ⊥

-- x is in the box with these corners: each entry is from that of the lowest to that of the highest
pub record IsInBox (low high x : List ℤ) : Type 0 where
  pub low_dimension : length low ≡ length x
  pub high_dimension : length high ≡ length x
  pub within : (i : ℕ) → i < length x → (entry low i ≤ℤ entry x i) × (entry x i ≤ℤ entry high i)

-- an integer as a natural number, where it isn't negative
abbrev pub natural_part : ℤ → ℕ
natural_part (pos n) = n
natural_part (negsuc n) = 0

-- the vectors whose first entry is one of the k integers from a on and whose others are those of a row
unfoldable pub columns : ℤ → ℕ → List (List ℤ) → List (List ℤ)
columns a zero rows = []
columns a (suc k) rows = map (λ y. a ∷ y) rows ++ columns (a +ℤ pos 1) k rows

-- the vectors of the box, in lexicographic order
unfoldable pub grid : List ℤ → List ℤ → List (List ℤ)
grid [] high = [] ∷ []
grid (a ∷ low) [] = []
grid (a ∷ low) (b ∷ high) = columns a (natural_part (b +ℤ pos 1 -ℤ a)) (grid low high)

-- whether x comes before y
unfoldable pub comes_before : List ℤ → List ℤ → Bool
comes_before [] y = false
comes_before (a ∷ x) [] = false
comes_before (a ∷ x) (b ∷ y) = cond (int_lt a b) true (cond (int_lt b a) false (comes_before x y))

-- the members of a list that come after x, and the others
unfoldable pub behind : List ℤ → List (List ℤ) → List (List ℤ)
behind x ys = filter (λ y. comes_before x y) ys

unfoldable pub up_to : List ℤ → List (List ℤ) → List (List ℤ)
up_to x ys = filter (λ y. not (comes_before x y)) ys
