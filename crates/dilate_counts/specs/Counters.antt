-- Counts as they grow, point by point. This project's own.
use Rattle.std.specs.Prelude.{◌≡◌, ◌⊎◌, ℕ, suc, ◌+◌, ◌*◌, ◌<◌, ◌≤◌, Bool, true, false, List, length, ℤ}
use Rattle.std.specs.List.{All}
use Rattle.lattice_theory.specs.Affine.{Affine}
use Rattle.face_closing.specs.declared.limits.TheConstants.{MOST_FACES}
use Rattle.cayley_theory.specs.Bases.{Number}
use Rattle.base_counts.specs.Tops.{AreOfParts}
use Rattle.base_counts.specs.Laws.{HaveAllParts}
use Rattle.base_counts.specs.Counting.{HaveWords}
use Rattle.base_counts.specs.Visited.{AreWithin, HasBaseOn}
use Rattle.base_counts.specs.declared.counts.TheConstants.{DEGREES}
use Rattle.dilate_counts.specs.Classes.{IsTotal, IsClear}
use Rattle.dilate_counts.specs.declared.limits.TheConstants.{MOST_COUNTED}

-- vectors with n entries and one of r parts, of which each has a vector, and sets of them, as rows of so many words
pub record AreSets (n r : ℕ) (vectors : List Affine) (many : ℕ) (rows : List (List ℕ)) : Type 0 where
  pub of_parts : AreOfParts n r vectors
  pub all_parts : HaveAllParts r vectors
  pub few : r ≤ 3
  pub words : HaveWords many rows
  pub wide : length vectors ≤ 64 * many
  pub within : AreWithin (length vectors) rows

-- sets, the classes with their counts, the counts of the sets, and how many points may still be counted
pub record CounterState : Type 0 where
  pub dim : ℕ
  pub parts : ℕ
  pub vectors : List Affine
  pub rows : List (List ℕ)
  pub classes : List (List ℕ)
  pub seen : List ℕ
  pub counts : List ℕ
  pub left : ℕ

-- no count is above what was counted so far
abbrev pub AreBelow : ℕ → List ℕ → Type 0
AreBelow left counts = All (λ count. count + left ≤ MOST_COUNTED) counts

-- what holds of counts as they grow: there is one for each set and degree
pub record IsCounter (n r : ℕ) (vectors : List Affine) (many : ℕ) (rows : List (List ℕ)) (row_words : ℕ) (classes : List (List ℕ)) (seen counts : List ℕ)
    (left : ℕ) : Type 0 where
  pub sets : AreSets n r vectors many rows
  pub row : many ≡ row_words
  pub whole : length counts ≡ length rows * DEGREES
  pub places : length seen ≡ MOST_FACES * DEGREES
  pub clear : IsClear classes seen
  pub below : AreBelow left counts
  pub seen_below : AreBelow left seen

-- the number of points of a set at a degree
abbrev pub HasTotal : CounterState → ℕ → ℕ → ℕ → Type 0
HasTotal state k l v = IsTotal state.rows state.classes state.seen state.counts k l v

-- the sets that are counted stay, and so do the vectors
pub record IsSameCounter (before after : CounterState) : Type 0 where
  pub dim : after.dim ≡ before.dim
  pub parts : after.parts ≡ before.parts
  pub vectors : after.vectors ≡ before.vectors
  pub rows : after.rows ≡ before.rows
  pub whole : length after.counts ≡ length before.counts

-- each number is one more where the base of x has the degree and is 0 on the set, and otherwise the same
abbrev pub CountsPoint : CounterState → List ℤ → CounterState → Type 0
CountsPoint before x after = (k l v : ℕ) → k < length before.rows → l < DEGREES → HasTotal before k l v
    → (HasBaseOn before.parts before.vectors before.rows k l x × HasTotal after k l (suc v))
    ⊎ ((HasBaseOn before.parts before.vectors before.rows k l x → ⊥) × HasTotal after k l v)

-- a visit counts the point, where one more may be counted, and otherwise none is wanted
abbrev pub IsVisit : CounterState → List ℤ → Bool → CounterState → Type 0
IsVisit before x true after = IsSameCounter before after × CountsPoint before x after × (before.left ≡ suc after.left)
IsVisit before x false after = before.left ≡ 0

-- the numbers are those of the points
abbrev pub HasCounted : CounterState → List (List ℤ) → Type 0
HasCounted state xs = (k l : ℕ) → k < length state.rows → l < DEGREES
    → (v : ℕ) × HasTotal state k l v × Number (HasBaseOn state.parts state.vectors state.rows k l) xs v
