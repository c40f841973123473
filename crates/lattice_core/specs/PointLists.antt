-- Lists of points as the calls take them. A point has 1 to 6 coordinates by its type. This project's own.
use Rattle.std.specs.Prelude.{◌<◌, List, length, ℤ}
use Rattle.lattice_theory.specs.Vector.{HaveDimension}
use Rattle.lattice_theory.specs.Facet.{IsFlat}
use Rattle.lattice_core.specs.Dimensions.{dimension_of}
use Rattle.lattice_core.specs.Limits.{IsSized}

-- at least one point, and all of one dimension
pub record ArePoints (points : List (List ℤ)) : Type 0 where
  pub some : 0 < length points
  pub one_dimension : HaveDimension (dimension_of points) points

-- such points within the size limit of their dimension
pub record AreSizedPoints (points : List (List ℤ)) : Type 0 where
  pub are_points : ArePoints points
  pub within : IsSized (dimension_of points) points

-- such points that aren't flat
pub record AreSolidPoints (points : List (List ℤ)) : Type 0 where
  pub sized : AreSizedPoints points
  pub solid : IsFlat (dimension_of points) points → ⊥
