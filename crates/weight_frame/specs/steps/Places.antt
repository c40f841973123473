-- The steps in which coordinates are found. This project's own.
use Rattle.std.specs.Prelude.{◌≡◌, ◌≢◌, ℕ, ◌<◌, ◌≤◌, List, length, take, ℤ, pos}
use Rattle.lattice_theory.specs.Vector.{entry}
use Rattle.lattice_core.specs.declared.limits.TheConstants.{MOST_COORDINATE}
use Rattle.weight_frame.specs.Frame.{AreCoordinates, largest}

-- the place has the first entry that isn't 0
pub record IsFirstPlace (x : List ℤ) (place : ℕ) : Type 0 where
  pub within : place < length x
  pub before : (j : ℕ) → j < place → entry x j ≡ pos 0
  pub nonzero : entry x place ≢ pos 0

-- the number is the coordinate behind these, whatever the coordinates of x are
abbrev pub IsNextCoordinate : List (List ℤ) → List ℤ → List ℤ → ℤ → Type 0
IsNextCoordinate vectors x found a = (c : List ℤ) → AreCoordinates (length x) vectors x c → take (length found) c ≡ found
    → a ≡ entry c (length found)

-- these are the coordinates of x, whatever they are, within the limit
pub record AreFound (vectors : List (List ℤ)) (x found : List ℤ) : Type 0 where
  pub same : (c : List ℤ) → AreCoordinates (length x) vectors x c → c ≡ found
  pub within : largest found ≤ MOST_COORDINATE
  pub count : length found ≡ length vectors

-- one of the coordinates of x, whatever they are, is above the limit
abbrev pub IsLargeSomewhere : List (List ℤ) → List ℤ → Type 0
IsLargeSomewhere vectors x = (c : List ℤ) → AreCoordinates (length x) vectors x c → MOST_COORDINATE < largest c
