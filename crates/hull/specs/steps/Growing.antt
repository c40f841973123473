-- The hull that grows until no point lies beyond a facet. This project's own.
use Rattle.std.specs.Prelude.{◌≡◌, ◌⊎◌, ℕ, List, [], ◌∷◌, ℤ, pos, ◌≤ℤ◌}
use Rattle.std.specs.List.{All, AllWithin, Contains}
use Rattle.lattice_theory.specs.Vector.{others}
use Rattle.lattice_theory.specs.Affine.{Affine, value, IsNonnegative}
use Rattle.lattice_theory.specs.Facet.{AreFacets, AreFacetsInAnyOrder}
use Rattle.lattice_core.specs.Dimensions.{dimension_of}
use Rattle.lattice_core.specs.PointLists.{AreSolidPoints}

-- the corners are some of the points, and no point lies beyond one of the first facets, those that are done
pub record IsGrowing (points corners : List (List ℤ)) (facets : List Affine) (done : ℕ) : Type 0 where
  pub dimension : dimension_of corners ≡ dimension_of points
  pub among : (c : List ℤ) → Contains corners c → Contains points c
  pub nonnegative : AllWithin (IsNonnegative points) facets 0 done

-- the corners are some of the points, and the facets, in order, are those of both
pub record IsWholeHull (points corners : List (List ℤ)) (facets : List Affine) : Type 0 where
  pub dimension : dimension_of corners ≡ dimension_of points
  pub among : (c : List ℤ) → Contains corners c → Contains points c
  pub solid : AreSolidPoints corners
  pub own : AreFacetsInAnyOrder (dimension_of corners) corners facets
  pub whole : AreFacets (dimension_of points) points facets

-- the outer points are corners and points, and have all corners and all points at which one of the functions is negative
pub record IsOuter (corners : List (List ℤ)) (functions : List Affine) (points outer : List (List ℤ)) : Type 0 where
  pub corners_in : (c : List ℤ) → Contains corners c → Contains outer c
  pub among : (p : List ℤ) → Contains outer p → Contains corners p ⊎ Contains points p
  pub rest : (p : List ℤ) → Contains points p → Contains outer p ⊎ All (λ f. pos 0 ≤ℤ value f p) functions

-- the points other than the corners
abbrev pub others_than : List (List ℤ) → List (List ℤ) → List (List ℤ)
others_than [] points = points
others_than (c ∷ corners) points = others_than corners (others points c)
