-- What a growing hull holds, and what becomes of it with one more point. This project's own.
use Rattle.std.specs.Prelude.{◌≢◌, ℕ, List, ℤ}
use Rattle.std.specs.List.{AllPairs}
use Rattle.lattice_theory.specs.Affine.{Affine}
use Rattle.lattice_theory.specs.Facet.{AreFacetsInAnyOrder}
use Rattle.lattice_core.specs.Dimensions.{dimension_of}
use Rattle.lattice_core.specs.PointLists.{AreSolidPoints}

-- the corners and their facets
pub record GrownHull : Type 0 where
  pub corners : List (List ℤ)
  pub facets : List Affine

-- the facets of points, each once, in any order
pub record HasFacets (n : ℕ) (points : List (List ℤ)) (facets : List Affine) : Type 0 where
  pub once : AllPairs (λ f g. f ≢ g) facets
  pub members : AreFacetsInAnyOrder n points facets

-- solid points within the size limit, and their facets
pub record IsGrown (corners : List (List ℤ)) (facets : List Affine) : Type 0 where
  pub solid : AreSolidPoints corners
  pub hull : HasFacets (dimension_of corners) corners facets
