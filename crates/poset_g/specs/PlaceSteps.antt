-- How the intervals are numbered. This project's own.
use Rattle.std.specs.Prelude.{◌≡◌, ◌⊎◌, ℕ, suc, ◌+◌, ◌*◌, ◌<◌, ◌≤◌, Bool, true, false, Option, None, Some, length, slice_index_or}
use Rattle.stringy_theory.specs.Eulerian.{Order}
use Rattle.face_closing.specs.declared.limits.TheConstants.{MOST_FACES}
use Rattle.poset_g.specs.Stored.{PlacesState, number_at, find_at}

pub record AreKept (s : PlacesState) : Type 0 where
  pub few : s.count ≤ MOST_FACES
  pub few_intervals : s.total ≤ MOST_FACES * MOST_FACES
  pub long : length s.table ≡ s.count * s.count
  pub within : (i : ℕ) → slice_index_or s.table i 0 ≤ s.total

-- what is found: that there is no interval, or one less than its number
abbrev pub IsFound : PlacesState → ℕ → ℕ → Option ℕ → Type 0
IsFound s x y None = find_at s x y ≡ 0
IsFound s x y (Some p) = (find_at s x y ≡ suc p) × (p < s.total)

-- x and y are in the rows before this one, or in it and before this column
abbrev pub IsTo : ℕ → ℕ → ℕ → ℕ → Type 0
IsTo row column x y = (x < row) ⊎ ((x ≡ row) × (y < column))

-- the intervals so far have numbers, each another, and nothing else has one
pub record ArePlacesTo (o : Order ℕ) (count row column : ℕ) (s : PlacesState) : Type 0 where
  pub count_is : s.count ≡ count
  pub few_intervals : s.total ≤ row * count + column
  pub long : length s.table ≡ row * count + column
  pub within : (i : ℕ) → slice_index_or s.table i 0 ≤ s.total
  pub some : (x y : ℕ) → y < count → IsTo row column x y → o.below x y ≡ true → (p : ℕ) × (number_at s x y ≡ suc p)
  pub none : (x y : ℕ) → y < count → IsTo row column x y → o.below x y ≡ false → number_at s x y ≡ 0
  pub apart : (x y z w p : ℕ) → y < count → w < count → IsTo row column x y → IsTo row column z w
      → number_at s x y ≡ suc p → number_at s z w ≡ suc p → (x ≡ z) × (y ≡ w)

-- how many intervals there are with one place more, and the number of this place
abbrev pub IsNext : Bool → ℕ → ℕ → ℕ → Type 0
IsNext below total next number = ((below ≡ true) × (next ≡ total + 1) × (number ≡ total + 1)) ⊎ ((below ≡ false) × (next ≡ total) × (number ≡ 0))

abbrev pub ArePlaces : Order ℕ → ℕ → PlacesState → Type 0
ArePlaces o count s = ArePlacesTo o count count 0 s
