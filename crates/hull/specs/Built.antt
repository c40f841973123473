-- What a builder of hulls holds. This project's own.
use Rattle.std.specs.Prelude.{◌≡◌, List, ℤ}
use Rattle.std.specs.List.{Contains}
use Rattle.lattice_theory.specs.Affine.{Affine}
use Rattle.lattice_core.specs.Dimensions.{dimension_of}
use Rattle.lattice_core.specs.PointLists.{AreSolidPoints}
use Rattle.hull_growth.specs.Grown.{GrownHull, HasFacets, IsGrown}

-- the points so far, and their facets
pub record Built : Type 0 where
  pub points : List (List ℤ)
  pub facets : List Affine

-- solid points within the size limit, and a growing hull of some of them that has their facets
pub record IsBuilt (points : List (List ℤ)) (growth : GrownHull) : Type 0 where
  pub solid : AreSolidPoints points
  pub hull : HasFacets (dimension_of points) points growth.facets
  pub corners : IsGrown growth.corners growth.facets
  pub dimension : dimension_of growth.corners ≡ dimension_of points
  pub among : (c : List ℤ) → Contains growth.corners c → Contains points c
