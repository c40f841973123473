-- Faces as what rows of functions have in common, and the closing of a table by one more row. This project's own.
use Rattle.std.specs.Prelude.{◌≡◌, ◌≢◌, ◌⊎◌, ◌↔◌, ℕ, suc, ◌<◌, Bool, true, List, [], ◌∷◌}
use Rattle.std.specs.List.{All, Contains}
use Rattle.face_theory.specs.Sets.{numbers_with, common}
use Rattle.face_theory.specs.Faces.{TightRelation, IsRank}

-- the row of a function: the members that are tight on it
abbrev pub function_row : TightRelation → ℕ → List Bool
function_row R f = numbers_with R.members (λ m. R.tight m f)

-- what the rows of some functions have in common; where there are none, all members
abbrev pub row_meet : TightRelation → List ℕ → List Bool
row_meet R [] = numbers_with R.members (λ m. true)
row_meet R (f ∷ fs) = common (row_meet R fs) (function_row R f)

-- the set is what the rows of some of the first j functions have in common
pub record IsRowMeet (R : TightRelation) (j : ℕ) (set : List Bool) : Type 0 where
  pub chosen : List ℕ
  pub first : All (λ f. f < j) chosen
  pub is : set ≡ row_meet R chosen

-- the table has all such sets, and no others
abbrev pub AreRowMeets : TightRelation → ℕ → List (List Bool) → Type 0
AreRowMeets R j table = (set : List Bool) → Contains table set ↔ IsRowMeet R j set

-- the set stands in the table, or it is what a set of the table has in common with the row
abbrev pub IsMadeBy : List (List Bool) → List Bool → List Bool → Type 0
IsMadeBy table row set = Contains table set ⊎ ((old : List Bool) × Contains table old × (set ≡ common old row))

-- k is above the rank of whatever else the face has in common with the row of a function, and it is 0 or one such rank and 1
pub record IsOverMeets (R : TightRelation) (face : List Bool) (k : ℕ) : Type 0 where
  pub above : (f : ℕ) → f < R.functions → common face (function_row R f) ≢ face
      → (j : ℕ) × IsRank R (common face (function_row R f)) j × (j < k)
  pub reached : (k ≡ 0) ⊎ ((f : ℕ) × (f < R.functions) × (common face (function_row R f) ≢ face)
      × ((j : ℕ) × IsRank R (common face (function_row R f)) j × (k ≡ suc j)))
