-- What the calls on frames answer. This project's own.
use Rattle.std.specs.Prelude.{◌≡◌, ◌⊎◌, ℕ, ◌<◌, ◌≤◌, List, length, ℤ}
use Rattle.lattice_core.specs.Weights.{Weighted, columns_of, IsInLattice, AreWellFormed, AreWithinLimits}
use Rattle.lattice_core.specs.declared.limits.TheConstants.{MOST_COORDINATE, MOST_COORDINATES}
use Rattle.weight_frame.specs.Frame.{IsRecursion, AreCoordinates, largest, AreWithinEntryLimit, IsFirstAboveLimit}
use Rattle.weight_frame.specs.declared.frame.FrameFault.{FrameFault}
use Rattle.weight_frame.specs.declared.frame.FrameFault.TheVariants as faults
use Rattle.weight_frame.specs.declared.coordinates.Coordinates.{Coordinates}
use Rattle.weight_frame.specs.declared.coordinates.Coordinates.TheVariants as answers

-- the recursion has a vector with an entry above the limit, and the largest absolute value of the first one's entries is told
pub record ExceedsEntryLimit (systems : List Weighted) (told : ℕ) : Type 0 where
  pub vectors : List (List ℤ)
  pub made : List (List ℤ)
  pub recursion : IsRecursion systems vectors made
  pub first : IsFirstAboveLimit made told

-- the vectors are the frame, and the recursion has no vector with an entry above the limit
pub record IsFrameWithinLimit (systems : List Weighted) (vectors : List (List ℤ)) : Type 0 where
  pub made : List (List ℤ)
  pub recursion : IsRecursion systems vectors made
  pub within : AreWithinEntryLimit made

-- no entry is above the limit, and the frame has n vectors, which are none or more than a point has coordinates at most
pub record HasOtherDimension (systems : List Weighted) (n : ℕ) : Type 0 where
  pub vectors : List (List ℤ)
  pub frame : IsFrameWithinLimit systems vectors
  pub count : n ≡ length vectors
  pub outside : (n ≡ 0) ⊎ (MOST_COORDINATES < n)

-- why there is no frame: an entry above the limit, then the number of vectors, or want of memory
abbrev pub IsFrameFault : List Weighted → FrameFault → Type 0
IsFrameFault systems (faults.Entry told) = ExceedsEntryLimit systems told
IsFrameFault systems (faults.Dim n) = HasOtherDimension systems n
IsFrameFault systems faults.NoMemory = Unit {0}

-- what contracts see of a frame: its systems and its vectors
pub record Framed : Type 0 where
  pub systems : List Weighted
  pub vectors : List (List ℤ)

-- what holds of every frame that is handed out
pub record IsHandedOut (frame : Framed) : Type 0 where
  pub formed : AreWellFormed frame.systems
  pub limited : AreWithinLimits frame.systems
  pub is_frame : IsFrameWithinLimit frame.systems frame.vectors
  pub least : 1 ≤ length frame.vectors
  pub most : length frame.vectors ≤ MOST_COORDINATES

-- x is in the lattice, and these are its coordinates
pub record HasCoordinates (frame : Framed) (x coordinates : List ℤ) : Type 0 where
  pub inside : IsInLattice frame.systems x
  pub are_coordinates : AreCoordinates (columns_of frame.systems) frame.vectors x coordinates

-- x is in the lattice, and one of its coordinates is above the limit in size
pub record HasLargeCoordinate (frame : Framed) (x : List ℤ) : Type 0 where
  pub coordinates : List ℤ
  pub are_coordinates : HasCoordinates frame x coordinates
  pub large : MOST_COORDINATE < largest coordinates

-- what is answered of x: its coordinates where they are within the limit, or that one of them isn't, or that x is outside the lattice
abbrev pub IsAnswer : Framed → List ℤ → Coordinates → Type 0
IsAnswer frame x (answers.At y) = HasCoordinates frame x y × (largest y ≤ MOST_COORDINATE)
IsAnswer frame x answers.Large = HasLargeCoordinate frame x
IsAnswer frame x answers.Outside = IsInLattice frame.systems x → ⊥
