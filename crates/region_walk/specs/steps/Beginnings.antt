-- Beginnings of vectors: the first coordinates, with the last value that each takes. This project's own.
use Rattle.std.specs.Prelude.{◌≡◌, ◌⊎◌, ℕ, ◌+◌, ◌<◌, Bool, true, false, List, [], ◌∷◌, ◌++◌, length, take, ℤ, pos, ◌+ℤ◌, ◌≤ℤ◌, ◌<ℤ◌}
use Rattle.lattice_theory.specs.Affine.{Affine}
use Rattle.lattice_theory.specs.Vector.{entry}
use Rattle.region_walk.specs.Regions.{IsInside, level}
use Rattle.region_walk.specs.steps.Spans.{IsBetween, AreNonnegativeAt}

-- the step raises the coordinate at the place, and all behind it are at their ends
pub record IsStepAt (p ends new new_ends : List ℤ) (place : ℕ) : Type 0 where
  pub within : place < length p
  pub room : entry p place <ℤ entry ends place
  pub behind : (k : ℕ) → place < k → k < length p → entry ends k ≤ℤ entry p k
  pub entries_are : new ≡ take place p ++ (entry p place +ℤ pos 1) ∷ []
  pub ends_are : new_ends ≡ take (place + 1) ends

-- with the answer true some step was made, and with the answer false all coordinates are at their ends
abbrev pub Steps : List ℤ → List ℤ → List ℤ → List ℤ → Bool → Type 0
Steps p ends new new_ends true = (place : ℕ) × IsStepAt p ends new new_ends place
Steps p ends new new_ends false = (k : ℕ) → k < length p → entry ends k ≤ℤ entry p k

-- z, of k + 1 coordinates, is in the box, and the functions of the level k are nonnegative there
pub record MeetsLevel (low high : List ℤ) (levels : List (List Affine)) (k : ℕ) (z : List ℤ) : Type 0 where
  pub between : IsBetween (entry low k) (entry high k) (entry z k)
  pub nonnegative : AreNonnegativeAt (level levels k) z

-- y begins with the entries of p
abbrev pub Begins : List ℤ → List ℤ → Type 0
Begins [] y = Unit {0}
Begins (a ∷ p) [] = ⊥
Begins (a ∷ p) (b ∷ y) = (a ≡ b) × Begins p y

-- y begins with p, or comes after all vectors that do
abbrev pub IsFrom : List ℤ → List ℤ → Type 0
IsFrom [] y = Unit {0}
IsFrom (a ∷ p) [] = ⊥
IsFrom (a ∷ p) (b ∷ y) = (a <ℤ b) ⊎ ((a ≡ b) × IsFrom p y)

-- each coordinate of p, from its value to its end, meets its level, and no vector of the region that begins alike is beyond that end
pub record IsOpen (low high : List ℤ) (levels : List (List Affine)) (p ends : List ℤ) : Type 0 where
  pub same_length : length ends ≡ length p
  pub ordered : (i : ℕ) → i < length p → entry p i ≤ℤ entry ends i
  pub meets : (i : ℕ) → i < length p → (v : ℤ) → IsBetween (entry p i) (entry ends i) v → MeetsLevel low high levels i (take i p ++ v ∷ [])
  pub last : (i : ℕ) → i < length p → (y : List ℤ) → IsInside low high levels y → Begins (take i p) y → entry y i ≤ℤ entry ends i

-- p is a beginning of fewer coordinates than n
pub record IsBeginning (low high : List ℤ) (levels : List (List Affine)) (p ends : List ℤ) : Type 0 where
  pub opened : IsOpen low high levels p ends
  pub short : length p < length low

-- all vectors of the region that are from p on are from q on, and q is
pub record IsFurther (low high : List ℤ) (levels : List (List Affine)) (p q : List ℤ) : Type 0 where
  pub later : (y : List ℤ) → length y ≡ length low → IsFrom q y → IsFrom p y
  pub all : (y : List ℤ) → IsInside low high levels y → IsFrom p y → IsFrom q y

-- the vectors of the region that begin with p have one coordinate more, which goes from `least` to `most`
pub record IsRunOf (low high : List ℤ) (levels : List (List Affine)) (p : List ℤ) (least most : ℤ) : Type 0 where
  pub coordinates : length p + 1 ≡ length low
  pub ordered : least ≤ℤ most
  pub inside : (v : ℤ) → IsBetween least most v → IsInside low high levels (p ++ v ∷ [])
  pub only : (y : List ℤ) → IsInside low high levels y → Begins p y → IsBetween least most (entry y (length p))

-- no vector of the region is from p on
abbrev pub HasNoneFrom : List ℤ → List ℤ → List (List Affine) → List ℤ → Type 0
HasNoneFrom low high levels p = (y : List ℤ) → IsInside low high levels y → IsFrom p y → ⊥
