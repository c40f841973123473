-- What is said of an item's points is said once: the laws of this crate, as statements. This project's own.
use Rattle.std.specs.Prelude.{◌≡◌, ◌≤◌, List, length, ℤ}
use Rattle.lattice_theory.specs.Points.{AreLatticePoints}
use Rattle.lattice_core.specs.Dimensions.{dimension_of}
use Rattle.lattice_core.specs.Weights.{Weighted, AreWellFormed}
use Rattle.lattice_core.specs.declared.limits.TheConstants.{MOST_MONOMIALS}
use Rattle.lattice_core.specs.declared.faults.Refusal.{Refusal}
use Rattle.palp_input.specs.Grammar.{Listed}
use Rattle.item_points.specs.WeightLines.{AreWeightPoints}
use Rattle.item_points.specs.Points.{HasPoints, IsPointsRefusal, AreItemPoints}

-- an item has no two lists of points
abbrev pub OneListOfPoints : Type 0
OneListOfPoints = (item : Listed) (points others : List (List ℤ)) → HasPoints item points → HasPoints item others → points ≡ others

-- an item is refused for no two causes
abbrev pub OnePointsRefusal : Type 0
OnePointsRefusal = (item : Listed) (cause other : Refusal) → IsPointsRefusal item cause → IsPointsRefusal item other → cause ≡ other

-- an item that has points isn't refused
abbrev pub PointsOrRefusal : Type 0
PointsOrRefusal = (item : Listed) (points : List (List ℤ)) (cause : Refusal) → HasPoints item points → IsPointsRefusal item cause → ⊥

-- an item's points are at least one, of one dimension from 1 to 6, and within the size limit
abbrev pub PointsAreItemPoints : Type 0
PointsAreItemPoints = (item : Listed) (points : List (List ℤ)) → HasPoints item points → AreItemPoints points

-- the points of a weight line are all lattice points of their hull, in lexicographic order
abbrev pub WeightPointsAreLatticePoints : Type 0
WeightPointsAreLatticePoints = (systems : List Weighted) (points : List (List ℤ)) → AreWellFormed systems → AreWeightPoints systems points
    → AreLatticePoints (dimension_of points) points points

-- and they are no more than the exponent vectors that a line may have
abbrev pub WeightPointsAreFew : Type 0
WeightPointsAreFew = (systems : List Weighted) (points : List (List ℤ)) → AreWeightPoints systems points → length points ≤ MOST_MONOMIALS
