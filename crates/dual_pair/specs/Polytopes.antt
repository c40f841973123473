-- Polytopes, as their vertices, facets and lattice points in order, and the points that have none (math/0204356, section 2; the limits are
-- this project's own).
use Rattle.std.specs.Prelude.{◌≡◌, ℕ, ◌+◌, ◌≤◌, List, length, ℤ}
use Rattle.lattice_theory.specs.Affine.{Affine}
use Rattle.lattice_theory.specs.Hull.{AreVertices}
use Rattle.lattice_theory.specs.Facet.{AreFacets}
use Rattle.lattice_theory.specs.Points.{AreLatticePoints}
use Rattle.lattice_core.specs.Dimensions.{dimension_of}
use Rattle.lattice_core.specs.Limits.{IsSized}
use Rattle.lattice_core.specs.PointLists.{AreSolidPoints}
use Rattle.lattice_core.specs.declared.limits.TheConstants.{MOST_COORDINATES, MOST_FACETS, MOST_VERTICES, MOST_POINTS}
use Rattle.lattice_core.specs.declared.faults.Refusal.{Refusal}
use Rattle.lattice_core.specs.declared.faults.Refusal.TheVariants as refusals
use Rattle.lattice_core.specs.declared.faults.LimitName.{LimitName}
use Rattle.lattice_core.specs.declared.faults.LimitName.TheVariants as limits
use Rattle.hull.specs.Faults.{HaveFewFacets, IsPolytopeRefusal, IsPolytopeLimit}
use Rattle.point_scan.specs.Faults.{HasMorePoints}

-- the lists of a polytope
pub record PolytopeState : Type 0 where
  pub vertices : List (List ℤ)
  pub facets : List Affine
  pub points : List (List ℤ)

-- they are those of points with 1 to 6 coordinates that aren't flat: all vertices, all facets and all lattice points, in order, within the
-- limits
pub record IsPolytopeOf (points : List (List ℤ)) (p : PolytopeState) : Type 0 where
  pub least : 1 ≤ dimension_of points
  pub most : dimension_of points ≤ MOST_COORDINATES
  pub solid : AreSolidPoints points
  pub vertices_are : AreVertices (dimension_of points) points p.vertices
  pub facets_are : AreFacets (dimension_of points) points p.facets
  pub points_are : AreLatticePoints (dimension_of points) points p.points
  pub few_vertices : length p.vertices ≤ MOST_VERTICES
  pub few_facets : length p.facets ≤ MOST_FACETS
  pub few_points : length p.points ≤ MOST_POINTS

-- what holds of every polytope: its lists are those of its vertices
abbrev pub IsPolytope : PolytopeState → Type 0
IsPolytope p = IsPolytopeOf p.vertices p

-- the points aren't flat and have few facets and vertices, but too many lattice points, of which the limit and one are told
pub record HasManyPoints (n : ℕ) (points : List (List ℤ)) (told : ℕ) : Type 0 where
  pub sized : IsSized n points
  pub faces : HaveFewFacets n points
  pub vertices : List (List ℤ)
  pub are_vertices : AreVertices n points vertices
  pub few_vertices : length vertices ≤ MOST_VERTICES
  pub more : HasMorePoints n points MOST_POINTS
  pub told_is : told ≡ MOST_POINTS + 1

-- the limits, in order: the size, the facets, the vertices, and then the lattice points
abbrev pub IsPolytopeStop : ℕ → List (List ℤ) → LimitName → ℕ → Type 0
IsPolytopeStop n points limits.Points told = HasManyPoints n points told
IsPolytopeStop n points name told = IsPolytopeLimit n points name told

-- why points have no polytope: their size, their flat function, or one of these limits
abbrev pub HasNoPolytope : List (List ℤ) → Refusal → Type 0
HasNoPolytope points (refusals.Flat f) = IsPolytopeRefusal (dimension_of points) points (refusals.Flat f)
HasNoPolytope points (refusals.Limit name told) = IsPolytopeStop (dimension_of points) points name told
