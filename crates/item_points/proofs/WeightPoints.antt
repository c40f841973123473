-- The points of a weight line: how many they are, and that they have one dimension.
use Rattle.std.specs.Prelude.{ℤ}
use Rattle.std.proofs.Common.{◌≡◌, ℕ, ◌<◌, List, [], ◌∷◌, length, refl, arith}
use Rattle.lattice_theory.specs.Vector.{HaveDimension}
use Rattle.lattice_theory.proofs.Members.{Each, empty, more, all_from_each}
use Rattle.lattice_core.specs.Dimensions.{dimension_of}
use Rattle.lattice_core.specs.Weights.{Weighted, columns_of}
use Rattle.lattice_core.proofs.Dimension.{dimension_is}
use Rattle.lattice_core.specs.PointLists.{ArePoints}
use Rattle.item_points.specs.WeightLines.{HaveCoordinates, AreWeightPoints}
use Rattle.item_points.specs.Laws.{WeightPointsAreFew}

-- as many points as members, each with as many coordinates as there are vectors
have_count : (n : ℕ) (vectors members points : List (List ℤ)) → HaveCoordinates n vectors members points → length members ≡ length points
have_count n vectors [] [] h = refl
have_count n vectors [] (p ∷ points) h = absurd h
have_count n vectors (a ∷ members) [] h = absurd h
have_count n vectors (a ∷ members) (p ∷ points) h = let r = have_count n vectors members points h.1 in omega arith

have_dimension : (n : ℕ) (vectors members points : List (List ℤ)) → HaveCoordinates n vectors members points
    → Each (λ p. length p ≡ length vectors) points
have_dimension n vectors [] [] h = empty
have_dimension n vectors [] (p ∷ points) h = absurd h
have_dimension n vectors (a ∷ members) [] h = absurd h
have_dimension n vectors (a ∷ members) (p ∷ points) h = more h.0.count (have_dimension n vectors members points h.1)

pub weight_are_points : (systems : List Weighted) (points : List (List ℤ)) → (a : AreWeightPoints systems points)
    → ArePoints points × (dimension_of points ≡ length a.frame.vectors)
weight_are_points systems points a =
    let vectors = a.frame.vectors in
    let count = have_count (columns_of systems) vectors a.members points a.coordinates in
    let members = a.some in
    let some : 0 < length points = omega arith in
    let dims : HaveDimension (length vectors) points =
    all_from_each (have_dimension (columns_of systems) vectors a.members points a.coordinates) in
    let first = dimension_is (length vectors) points some dims in
    (record { some = some; one_dimension = rw first dims }, first)

-- they are few
pub weight_points_are_few : WeightPointsAreFew
weight_points_are_few systems points a =
    let same = have_count (columns_of systems) a.frame.vectors a.members points a.coordinates in
    let few = a.few in
    omega arith
