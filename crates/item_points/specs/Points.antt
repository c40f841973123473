-- The points of an item in order, or why it has none within the limits. The limits are this project's own.
use Rattle.std.specs.Prelude.{◌≡◌, ◌⊎◌, ℕ, ◌+◌, ◌<◌, ◌≤◌, List, ℤ}
use Rattle.std.specs.List.{All, Contains}
use Rattle.lattice_theory.specs.Size.{size}
use Rattle.lattice_core.specs.Dimensions.{dimension_of}
use Rattle.lattice_core.specs.Limits.{size_limit_of, IsSized}
use Rattle.lattice_core.specs.declared.faults.Refusal.{Refusal}
use Rattle.lattice_core.specs.declared.faults.Refusal.TheVariants.{Limit}
use Rattle.lattice_core.specs.declared.faults.LimitName.TheVariants.{Size}
use Rattle.palp_input.specs.Grammar.{Listed, ListedWeights, ListedPoints}
use Rattle.lattice_core.specs.declared.limits.TheConstants.{MOST_COORDINATE}
use Rattle.weight_frame.specs.Frame.{largest}
use Rattle.lattice_core.specs.declared.limits.TheConstants.{MOST_COORDINATES}
use Rattle.lattice_core.specs.PointLists.{AreSizedPoints}
use Rattle.item_points.specs.Matrices.{AreMatrixPoints, IsMatrixRefusal}
use Rattle.item_points.specs.WeightLines.{AreWeightPoints, IsWeightRefusal}

-- an item that is within the limits before the size has these points, of any size
abbrev pub HasPointsOfAnySize : Listed → List (List ℤ) → Type 0
HasPointsOfAnySize (ListedWeights systems) points = AreWeightPoints systems points
HasPointsOfAnySize (ListedPoints lines columns entries) points = AreMatrixPoints lines columns entries points

-- an item within the limits has these points
pub record HasPoints (item : Listed) (points : List (List ℤ)) : Type 0 where
  pub are_points : HasPointsOfAnySize item points
  pub sized : IsSized (dimension_of points) points

-- some point has a coordinate above the limit on coordinates
pub record HaveLargeCoordinate (points : List (List ℤ)) : Type 0 where
  pub point : List ℤ
  pub member : Contains points point
  pub large : MOST_COORDINATE < largest point

-- no point has
abbrev pub HaveSmallCoordinates : List (List ℤ) → Type 0
HaveSmallCoordinates points = All (λ p. largest p ≤ MOST_COORDINATE) points

-- what is told of the size of an item's points: the size, but one more than the limit on coordinates where a point of a weight line has a
-- coordinate above that limit
abbrev pub IsToldSize : Listed → List (List ℤ) → ℕ → Type 0
IsToldSize (ListedWeights systems) points told =
    (HaveLargeCoordinate points × (told ≡ MOST_COORDINATE + 1)) ⊎ (HaveSmallCoordinates points × (told ≡ size (dimension_of points) points))
IsToldSize (ListedPoints lines columns entries) points told = told ≡ size (dimension_of points) points

-- the size of the item's points is above the limit
pub record HasLargeSize (item : Listed) (told : ℕ) : Type 0 where
  pub points : List (List ℤ)
  pub are_points : HasPointsOfAnySize item points
  pub large : size_limit_of (dimension_of points) < size (dimension_of points) points
  pub is_told : IsToldSize item points told

-- why an item is refused before the size
abbrev pub IsInputRefusal : Listed → Refusal → Type 0
IsInputRefusal (ListedWeights systems) cause = IsWeightRefusal systems cause
IsInputRefusal (ListedPoints lines columns entries) cause = IsMatrixRefusal lines columns cause

-- why an item has no points within the limits: the size is asked last
pub data IsPointsRefusal (item : Listed) : Refusal → Type 0 where
  input : {cause : Refusal} → IsInputRefusal item cause → IsPointsRefusal item cause
  large_size : {told : ℕ} → HasLargeSize item told → IsPointsRefusal item (Limit Size told)

-- what holds of the points of every item: there is one, they are of one dimension from 1 to 6, and within the size limit
pub record AreItemPoints (points : List (List ℤ)) : Type 0 where
  pub sized : AreSizedPoints points
  pub least : 1 ≤ dimension_of points
  pub most : dimension_of points ≤ MOST_COORDINATES
