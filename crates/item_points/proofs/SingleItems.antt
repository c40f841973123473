-- An item has one list of points or one refusal.
use Rattle.std.specs.Prelude.{ℤ}
use Rattle.std.proofs.Common.{◌≡◌, ℕ, ◌<◌, ◌≤◌, min, List, sym, ◌∙◌, ap, subst, arith, inl, inr, ⊎_elim}
use Rattle.std.proofs.lemmas.List.Elements.{All-contains}
use Rattle.lattice_theory.specs.Size.{size}
use Rattle.lattice_core.specs.Dimensions.{dimension_of}
use Rattle.lattice_core.specs.Limits.{size_limit_of}
use Rattle.lattice_core.specs.declared.faults.Fault.{Fault}
use Rattle.lattice_core.specs.declared.faults.Fault.TheVariants as faults
use Rattle.lattice_core.specs.declared.faults.Refusal.{Refusal}
use Rattle.lattice_core.specs.declared.faults.Refusal.TheVariants.{Limit}
use Rattle.lattice_core.specs.declared.faults.LimitName.TheVariants.{Dim, Input, Size}
use Rattle.palp_input.specs.Grammar.{Listed, ListedWeights, ListedPoints}
use Rattle.lattice_core.specs.declared.limits.TheConstants.{MOST_COORDINATE}
use Rattle.weight_frame.specs.Frame.{largest}
use Rattle.item_points.specs.Matrices.{AreMatrixPoints, HaveOtherDimension, IsMatrixRefusal, other_dimension, many_numbers}
use Rattle.item_points.specs.Points.{HasPointsOfAnySize, HasPoints, HaveLargeCoordinate, HaveSmallCoordinates, IsToldSize, HasLargeSize}
use Rattle.item_points.specs.Points.{IsInputRefusal, IsPointsRefusal, input, large_size}
use Rattle.lattice_core.specs.PointLists.{ArePoints}
use Rattle.lattice_core.specs.Stops.{Stops}
use Rattle.item_points.specs.Laws.{OneListOfPoints, OnePointsRefusal, PointsOrRefusal, PointsAreItemPoints}
use Rattle.item_points.proofs.MatrixPoints.{matrix_are_points}
use Rattle.item_points.proofs.WeightPoints.{weight_are_points}
use Rattle.item_points.proofs.SingleWeights.{same_weight_points, weight_refusal_or_points, one_weight_refusal}

-- matrices
other_or_within : (lines columns told : ℕ) → HaveOtherDimension lines columns told → 1 ≤ min lines columns → min lines columns ≤ 6 → ⊥
other_or_within lines columns told a least most =
    let e = a.told_is in
    ⊎_elim (λ (h : told ≡ 0). omega (arith, e, h, least)) (λ (h : 6 < told). omega (arith, e, h, most)) a.outside

matrix_refusal_or_points : (lines columns : ℕ) (entries : List ℤ) (cause : Refusal) (points : List (List ℤ))
    → IsMatrixRefusal lines columns cause
    → AreMatrixPoints lines columns entries points → ⊥
matrix_refusal_or_points lines columns entries _ points (other_dimension {told = told} a) h =
    other_or_within lines columns told a h.least h.most
matrix_refusal_or_points lines columns entries _ points (many_numbers {told = told} a) h = omega (arith, a.told_is, a.many, h.few)

one_matrix_refusal : (lines columns : ℕ) (cause other : Refusal) → IsMatrixRefusal lines columns cause → IsMatrixRefusal lines columns other
    → cause ≡ other
one_matrix_refusal lines columns _ _ (other_dimension a) (other_dimension b) = ap (Limit Dim) (a.told_is ∙ sym b.told_is)
one_matrix_refusal lines columns _ _ (other_dimension {told = told} a) (many_numbers b) =
    absurd (other_or_within lines columns told a b.least b.most)
one_matrix_refusal lines columns _ _ (many_numbers a) (other_dimension {told = told} b) =
    absurd (other_or_within lines columns told b a.least a.most)
one_matrix_refusal lines columns _ _ (many_numbers a) (many_numbers b) = ap (Limit Input) (a.told_is ∙ sym b.told_is)

-- all items
same_points : (item : Listed) (points others : List (List ℤ)) → HasPointsOfAnySize item points → HasPointsOfAnySize item others
    → points ≡ others
same_points (ListedWeights systems) points others a b = same_weight_points systems points others a b
same_points (ListedPoints lines columns entries) points others a b = a.are_points ∙ sym b.are_points

input_refusal_or_points : (item : Listed) (cause : Refusal) (points : List (List ℤ)) → IsInputRefusal item cause
    → HasPointsOfAnySize item points → ⊥
input_refusal_or_points (ListedWeights systems) cause points a h = weight_refusal_or_points systems cause points a h
input_refusal_or_points (ListedPoints lines columns entries) cause points a h =
    matrix_refusal_or_points lines columns entries cause points a h

one_input_refusal : (item : Listed) (cause other : Refusal) → IsInputRefusal item cause → IsInputRefusal item other → cause ≡ other
one_input_refusal (ListedWeights systems) cause other a b = one_weight_refusal systems cause other a b
one_input_refusal (ListedPoints lines columns entries) cause other a b = one_matrix_refusal lines columns cause other a b

-- the size
large_or_sized : (item : Listed) (told : ℕ) (points : List (List ℤ)) → HasLargeSize item told → HasPoints item points → ⊥
large_or_sized item told points a h =
    let same = same_points item a.points points a.are_points h.are_points in
    let large = subst (λ (xs : List (List ℤ)). size_limit_of (dimension_of xs) < size (dimension_of xs) xs) same a.large in
    omega (arith, large, h.sized)

large_or_small_coordinates : (points : List (List ℤ)) → HaveLargeCoordinate points → HaveSmallCoordinates points → ⊥
large_or_small_coordinates points a h =
    let small = All-contains (λ (p : List ℤ). largest p ≤ MOST_COORDINATE) points a.point h a.member in
    omega (arith, small, a.large)

same_told_size : (item : Listed) (points : List (List ℤ)) (told other : ℕ) → IsToldSize item points told → IsToldSize item points other
    → told ≡ other
same_told_size (ListedWeights systems) points told other (inl a) (inl b) = a.1 ∙ sym b.1
same_told_size (ListedWeights systems) points told other (inl a) (inr b) = absurd (large_or_small_coordinates points a.0 b.0)
same_told_size (ListedWeights systems) points told other (inr a) (inl b) = absurd (large_or_small_coordinates points b.0 a.0)
same_told_size (ListedWeights systems) points told other (inr a) (inr b) = a.1 ∙ sym b.1
same_told_size (ListedPoints lines columns entries) points told other a b = a ∙ sym b

same_large_size : (item : Listed) (told other : ℕ) → HasLargeSize item told → HasLargeSize item other → told ≡ other
same_large_size item told other a b =
    let same = same_points item b.points a.points b.are_points a.are_points in
    same_told_size item a.points told other a.is_told (subst (λ (xs : List (List ℤ)). IsToldSize item xs other) same b.is_told)

-- the laws
pub one_list_of_points : OneListOfPoints
one_list_of_points item points others a b = same_points item points others a.are_points b.are_points

pub points_or_refusal : PointsOrRefusal
points_or_refusal item points cause h (input a) = input_refusal_or_points item cause points a h.are_points
points_or_refusal item points _ h (large_size {told = told} a) = large_or_sized item told points a h

pub one_points_refusal : OnePointsRefusal
one_points_refusal item cause other (input a) (input b) = one_input_refusal item cause other a b
one_points_refusal item cause _ (input a) (large_size b) = absurd (input_refusal_or_points item cause b.points a b.are_points)
one_points_refusal item _ other (large_size a) (input b) = absurd (input_refusal_or_points item other a.points b a.are_points)
one_points_refusal item _ _ (large_size {told = told} a) (large_size {told = other} b) =
    ap (Limit Size) (same_large_size item told other a b)

-- what stops the work before the size
pub input_stops : (item : Listed) (fault : Fault) → Stops (IsInputRefusal item) fault → Stops (IsPointsRefusal item) fault
input_stops item (faults.Refused cause) h = input h
input_stops item faults.NoMemory h = h

-- points of any size
pub record AreSomePoints (points : List (List ℤ)) : Type 0 where
  pub are_points : ArePoints points
  pub least : 1 ≤ dimension_of points
  pub most : dimension_of points ≤ 6

pub some_points : (item : Listed) (points : List (List ℤ)) → HasPointsOfAnySize item points → AreSomePoints points
some_points (ListedWeights systems) points a =
    let h = weight_are_points systems points a in
    record { are_points = h.0; least = omega (arith, h.1, a.frame.least); most = omega (arith, h.1, a.frame.most) }
some_points (ListedPoints lines columns entries) points a =
    let h = matrix_are_points lines columns entries points a in
    record { are_points = h.0; least = omega (arith, h.1, a.least); most = omega (arith, h.1, a.most) }

pub points_are_item_points : PointsAreItemPoints
points_are_item_points item points h =
    let some = some_points item points h.are_points in
    record { sized = record { are_points = some.are_points; within = h.sized }; least = some.least; most = some.most }
