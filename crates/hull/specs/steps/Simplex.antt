-- The simplex from which a hull grows. This project's own.
use Rattle.std.specs.Prelude.{◌≡◌, ◌+◌, List, length, ℤ}
use Rattle.std.specs.List.{Contains}
use Rattle.lattice_core.specs.Dimensions.{dimension_of}
use Rattle.lattice_core.specs.PointLists.{AreSolidPoints}

-- the corners are one more of the points than coordinates, and aren't flat
pub record IsSimplex (points corners : List (List ℤ)) : Type 0 where
  pub dimension : dimension_of corners ≡ dimension_of points
  pub count : length corners ≡ dimension_of points + 1
  pub among : (c : List ℤ) → Contains corners c → Contains points c
  pub solid : AreSolidPoints corners
