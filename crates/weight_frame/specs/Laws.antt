-- The laws of frames, as statements. This project's own.
use Rattle.std.specs.Prelude.{◌≡◌, ◌↔◌, ℕ, ◌^◌, ◌<◌, ◌≤◌, List, ◌∷◌, length, ℤ}
use Rattle.std.specs.List.{Contains}
use Rattle.lattice_theory.specs.Order.{LexLess}
use Rattle.lattice_core.specs.declared.limits.TheConstants.{MOST_COORDINATES}
use Rattle.lattice_core.specs.Weights.{Weighted, weighted_degree, columns_of, AreWellFormed, AreWithinLimits}
use Rattle.weight_frame.specs.Frame.{IsFrame, IsRecursion, IsGreatestDivisor, degrees_of, AreLeastMultipliers, AreWithinEntryLimit, AreCoordinates}
use Rattle.weight_frame.specs.Answers.{IsFrameWithinLimit, ExceedsEntryLimit, HasOtherDimension}
use Rattle.weight_frame.specs.Bases.{IsIntegerBasis}
use Rattle.weight_frame.specs.StepSizes.{IsStepBelow}

-- the systems have a frame: the recursion can be carried out
abbrev pub FrameExists : Type 0
FrameExists = (systems : List Weighted) → (vectors : List (List ℤ)) × IsFrame systems vectors

-- and only one, made by the same vectors
abbrev pub FrameIsUnique : Type 0
FrameIsUnique = (systems : List Weighted) (vectors made others others_made : List (List ℤ)) → IsRecursion systems vectors made
    → IsRecursion systems others others_made → (vectors ≡ others) × (made ≡ others_made)

-- the frame is an integer basis of the weight lattice
abbrev pub FrameIsBasis : Type 0
FrameIsBasis = (systems : List Weighted) (vectors : List (List ℤ)) → IsFrame systems vectors → IsIntegerBasis systems vectors

-- and vectors stand in the order of their coordinates
abbrev pub FrameKeepsOrder : Type 0
FrameKeepsOrder = (systems : List Weighted) (vectors : List (List ℤ)) (x y c d : List ℤ) → IsFrame systems vectors
    → AreCoordinates (columns_of systems) vectors x c → AreCoordinates (columns_of systems) vectors y d → LexLess x y ↔ LexLess c d

-- systems with a frame within the limit don't exceed the limit on entries, whatever is told
abbrev pub FrameExceedsNothing : Type 0
FrameExceedsNothing = (systems : List Weighted) (vectors : List (List ℤ)) (told : ℕ) → IsFrameWithinLimit systems vectors
    → ExceedsEntryLimit systems told → ⊥

-- and where the frame has as many vectors as a point has coordinates, it has no other dimension
abbrev pub FrameHasOneDimension : Type 0
FrameHasOneDimension = (systems : List Weighted) (vectors : List (List ℤ)) (n : ℕ) → IsFrameWithinLimit systems vectors
    → 1 ≤ length vectors → length vectors ≤ MOST_COORDINATES → HasOtherDimension systems n → ⊥

-- a step that exchanges, with vectors within the limit, has numbers below 2^112 in size
abbrev pub StepsAreBounded : Type 0
StepsAreBounded = (systems : List Weighted) (system : Weighted) (u h : List ℤ) (us : List (List ℤ)) (after g p : ℕ) (q : ℤ) (s : ℕ) (t : ℤ)
    → AreWellFormed systems → AreWithinLimits systems → Contains systems system → AreWithinEntryLimit (u ∷ h ∷ us) → 0 < after
    → IsGreatestDivisor (degrees_of system us) after → AreLeastMultipliers (weighted_degree system u) after g p q s t
    → IsStepBelow (2 ^ 112) u (weighted_degree system u) h after p q s t
