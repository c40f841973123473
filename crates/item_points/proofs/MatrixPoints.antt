-- The points of a matrix: how many they are, and that they have one dimension.
use Rattle.std.specs.Prelude.{ℤ}
use Rattle.std.specs.List.{range_with_len}
use Rattle.std.proofs.Common.{◌≡◌, ℕ, ◌<◌, ◌≤◌, min, List, length, subst, sym, arith}
use Rattle.std.proofs.lemmas.List.FromFn.{length-map-range_with_len}
use Rattle.lattice_theory.specs.Vector.{HaveDimension}
use Rattle.lattice_core.specs.Dimensions.{dimension_of}
use Rattle.lattice_theory.proofs.Members.{each_map, each_from_in, all_from_each}
use Rattle.item_points.specs.Matrices.{coordinate_of, coordinate_count, point_at, point_count, points_of, AreMatrixPoints}
use Rattle.lattice_core.specs.PointLists.{ArePoints}
use Rattle.lattice_core.proofs.Dimension.{dimension_is}

-- each point has as many coordinates
pub matrix_dimension : (lines columns : ℕ) (entries : List ℤ)
    → HaveDimension (coordinate_count lines columns) (points_of lines columns entries)
matrix_dimension lines columns entries =
    all_from_each (each_map (λ (p : List ℤ). length p ≡ coordinate_count lines columns) (point_at lines columns entries)
    (each_from_in (range_with_len 0 (point_count lines columns)) (λ k i. length-map-range_with_len (coordinate_of lines columns entries k) 0
    (coordinate_count lines columns))))

-- there is a point
pub some_point : (lines columns : ℕ) (entries : List ℤ) → 1 ≤ lines → 0 < length (points_of lines columns entries)
some_point lines columns entries some =
    let count = length-map-range_with_len (point_at lines columns entries) 0 (point_count lines columns) in
    omega arith

-- so this is the points' dimension
pub matrix_first : (lines columns : ℕ) (entries : List ℤ) → 1 ≤ lines
    → dimension_of (points_of lines columns entries) ≡ coordinate_count lines columns
matrix_first lines columns entries some =
    dimension_is (coordinate_count lines columns) (points_of lines columns entries) (some_point lines columns entries some)
    (matrix_dimension lines columns entries)

-- a matrix with coordinates has lines
some_line : (lines columns : ℕ) → 1 ≤ min lines columns → 1 ≤ lines
some_line lines columns least = omega arith

-- the points of a matrix within the limits on its header
pub matrix_are_points : (lines columns : ℕ) (entries : List ℤ) (points : List (List ℤ)) → AreMatrixPoints lines columns entries points
    → ArePoints points × (dimension_of points ≡ coordinate_count lines columns)
matrix_are_points lines columns entries points a =
    let some = some_line lines columns a.least in
    let first = matrix_first lines columns entries some in
    subst (λ (xs : List (List ℤ)). ArePoints xs × (dimension_of xs ≡ coordinate_count lines columns)) (sym a.are_points)
    (record { some = some_point lines columns entries some; one_dimension = rw first (matrix_dimension lines columns entries) }, first)
