-- The points of a matrix (arXiv:1205.4147, section 3: a matrix with a header).
use Rattle.std.specs.Prelude.{◌≡◌, ◌⊎◌, ℕ, ◌+◌, ◌*◌, ◌<◌, ◌≤◌, min, max, nat_le, if◌then◌else◌, List, map, ℤ}
use Rattle.std.specs.List.{range_with_len}
use Rattle.lattice_theory.specs.Vector.{entry}
use Rattle.lattice_core.specs.declared.faults.Refusal.{Refusal}
use Rattle.lattice_core.specs.declared.faults.Refusal.TheVariants.{Limit}
use Rattle.lattice_core.specs.declared.faults.LimitName.TheVariants.{Dim, Input}
use Rattle.lattice_core.specs.declared.limits.TheConstants.{MOST_COORDINATES, MOST_NUMBERS}

-- the number in a line and a column, both counted from 0
abbrev pub number_at : ℕ → List ℤ → ℕ → ℕ → ℤ
number_at columns entries line column = entry entries (line * columns + column)

-- a coordinate of a point of a matrix, both counted from 0. The points are the lines where there are at least as many lines as columns,
-- otherwise the columns.
abbrev pub coordinate_of : ℕ → ℕ → List ℤ → ℕ → ℕ → ℤ
coordinate_of lines columns entries point place =
    if nat_le columns lines then number_at columns entries point place else number_at columns entries place point

-- how many coordinates each point of a matrix has, and how many points there are
abbrev pub coordinate_count : ℕ → ℕ → ℕ
coordinate_count lines columns = min lines columns

abbrev pub point_count : ℕ → ℕ → ℕ
point_count lines columns = max lines columns

-- a point of a matrix, counted from 0
abbrev pub point_at : ℕ → ℕ → List ℤ → ℕ → List ℤ
point_at lines columns entries point = map (coordinate_of lines columns entries point) (range_with_len 0 (coordinate_count lines columns))

-- the points of a matrix
abbrev pub points_of : ℕ → ℕ → List ℤ → List (List ℤ)
points_of lines columns entries = map (point_at lines columns entries) (range_with_len 0 (point_count lines columns))

-- a matrix that is within the limits on its header has these points
pub record AreMatrixPoints (lines columns : ℕ) (entries : List ℤ) (points : List (List ℤ)) : Type 0 where
  pub least : 1 ≤ coordinate_count lines columns
  pub most : coordinate_count lines columns ≤ MOST_COORDINATES
  pub few : point_count lines columns ≤ MOST_NUMBERS
  pub are_points : points ≡ points_of lines columns entries

-- the points have no coordinate or too many, and their number is told
pub record HaveOtherDimension (lines columns told : ℕ) : Type 0 where
  pub told_is : told ≡ coordinate_count lines columns
  pub outside : (told ≡ 0) ⊎ (MOST_COORDINATES < told)

-- the header's larger number is above the limit, and it is told
pub record HasManyNumbers (lines columns told : ℕ) : Type 0 where
  pub least : 1 ≤ coordinate_count lines columns
  pub most : coordinate_count lines columns ≤ MOST_COORDINATES
  pub told_is : told ≡ point_count lines columns
  pub many : MOST_NUMBERS < told

-- why a matrix is refused for its header: the dimension, then the larger number
pub data IsMatrixRefusal (lines columns : ℕ) : Refusal → Type 0 where
  other_dimension : {told : ℕ} → HaveOtherDimension lines columns told → IsMatrixRefusal lines columns (Limit Dim told)
  many_numbers : {told : ℕ} → HasManyNumbers lines columns told → IsMatrixRefusal lines columns (Limit Input told)
