-- What stops the search for a hull, or a scan, leaves the points without a polytope.
use Rattle.std.proofs.Common.{◌≡◌, ℕ, ◌<◌, ◌≤◌, List, length, ℤ, sym, ◌∙◌, subst, arith}
use Rattle.lattice_theory.specs.Affine.{Affine}
use Rattle.lattice_theory.specs.Hull.{AreVertices}
use Rattle.lattice_theory.specs.Facet.{AreFacets, AreFacetsInAnyOrder}
use Rattle.lattice_theory.specs.Points.{AreLatticePoints}
use Rattle.lattice_core.specs.Dimensions.{dimension_of}
use Rattle.lattice_core.specs.PointLists.{AreSolidPoints}
use Rattle.lattice_core.specs.Stops.{Stops}
use Rattle.lattice_core.specs.declared.faults.Fault.{Fault}
use Rattle.lattice_core.specs.declared.faults.Fault.TheVariants as faults
use Rattle.lattice_core.specs.declared.faults.LimitName.{LimitName}
use Rattle.lattice_core.specs.declared.faults.LimitName.TheVariants.{Size, Facets, Vertices, Points}
use Rattle.lattice_core.specs.declared.faults.Refusal.TheVariants.{Flat, Limit}
use Rattle.hull.specs.Faults.{IsPolytopeRefusal}
use Rattle.point_scan.specs.Faults.{IsScanRefusal}
use Rattle.dual_pair.proofs.VertexPoints.{solid_vertices, vertices_facets}
use Rattle.dual_pair.specs.Polytopes.{IsPolytopeOf, IsPolytope, IsPolytopeStop, HasNoPolytope}
use Rattle.dual_pair.proofs.VertexLists.{solid_of, points_from_vertices, polytope_of_vertices_lem}

-- no hull is handed out
pub hull_stop : (points : List (List ℤ)) (fault : Fault) → Stops (IsPolytopeRefusal (dimension_of points) points) fault
    → Stops (HasNoPolytope points) fault
hull_stop points (faults.Refused (Flat f)) h = h
hull_stop points (faults.Refused (Limit Size told)) h = h
hull_stop points (faults.Refused (Limit Facets told)) h = h
hull_stop points (faults.Refused (Limit Vertices told)) h = h
hull_stop points (faults.Refused (Limit other told)) h = absurd h
hull_stop points faults.NoMemory h = h

-- the facets and vertices of points are found
pub record HaveHull (points : List (List ℤ)) (facets : List Affine) (vertices : List (List ℤ)) : Type 0 where
  pub least : 1 ≤ dimension_of points
  pub most : dimension_of points ≤ 6
  pub solid : AreSolidPoints points
  pub facets_are : AreFacets (dimension_of points) points facets
  pub vertices_are : AreVertices (dimension_of points) points vertices
  pub few_facets : length facets ≤ 128
  pub few_vertices : length vertices ≤ 128

pub have_hull : (points : List (List ℤ)) (facets : List Affine) (vertices : List (List ℤ)) (dim : ℕ) → dim ≡ dimension_of points → 1 ≤ dim
    → dim ≤ 6 → AreSolidPoints points → AreFacets (dimension_of points) points facets → AreVertices (dimension_of points) points vertices
    → length facets ≤ 128 → length vertices ≤ 128 → HaveHull points facets vertices
have_hull points facets vertices dim is least most solid facets_are vertices_are few_facets few_vertices = record {
  least = omega arith;
  most = omega arith;
  solid = solid;
  facets_are = facets_are;
  vertices_are = vertices_are;
  few_facets = few_facets;
  few_vertices = few_vertices;
}

module _ (points : List (List ℤ)) (facets : List Affine) (vertices : List (List ℤ)) (h : HaveHull points facets vertices) where
  -- what a scan asks for
  pub scanned_vertices : AreSolidPoints vertices
  scanned_vertices = solid_vertices (dimension_of points) points vertices (solid_of points h.least h.solid) h.vertices_are h.solid.sized.within

  pub scanned_facets : AreFacetsInAnyOrder (dimension_of vertices) vertices facets
  scanned_facets = vertices_facets (dimension_of points) points vertices (solid_of points h.least h.solid) h.vertices_are facets
      h.facets_are.members

  -- too many lattice points
  pub too_many : (lattice : List (List ℤ)) (told : ℕ) → AreLatticePoints (dimension_of points) points lattice → 16384 < length lattice
      → told ≡ 16385 → IsPolytopeStop (dimension_of points) points Points told
  too_many lattice told are more is = record {
    sized = h.solid.sized.within;
    faces = record { solid = h.solid.solid; facets = facets; are_facets = h.facets_are; few = h.few_facets };
    vertices = vertices;
    are_vertices = h.vertices_are;
    few_vertices = h.few_vertices;
    more = record { lattice = lattice; are_lattice_points = are; more = more };
    told_is = is;
  }

  pub scan_stop : (fault : Fault) → Stops (IsScanRefusal (dimension_of vertices) vertices) fault → Stops (HasNoPolytope points) fault
  scan_stop (faults.Refused (Flat f)) s = absurd s
  scan_stop (faults.Refused (Limit name told)) s = subst (λ (name : LimitName). IsPolytopeStop (dimension_of points) points name told) (sym s.0)
      (too_many s.2.lattice told (points_from_vertices points vertices s.2.lattice h.least h.solid h.vertices_are s.2.are_lattice_points)
      s.2.more s.1)
  scan_stop faults.NoMemory s = s

  -- and few of them
  pub made : (lattice : List (List ℤ)) → AreLatticePoints (dimension_of points) points lattice → length lattice ≤ 16384
      → IsPolytopeOf points (record { vertices = vertices; facets = facets; points = lattice })
  made lattice are few = record {
    least = h.least;
    most = h.most;
    solid = h.solid;
    vertices_are = h.vertices_are;
    facets_are = h.facets_are;
    points_are = are;
    few_vertices = h.few_vertices;
    few_facets = h.few_facets;
    few_points = few;
  }

  -- the polytope holds its dimension
  pub held : (dim : ℕ) → dim ≡ dimension_of points → (lattice : List (List ℤ))
      → IsPolytopeOf points (record { vertices = vertices; facets = facets; points = lattice })
      → (dim ≡ dimension_of vertices) × IsPolytope (record { vertices = vertices; facets = facets; points = lattice })
  held dim e lattice is =
      let own = polytope_of_vertices_lem points (record { vertices = vertices; facets = facets; points = lattice }) is in
      (e ∙ sym own.1, own.0)

  -- what a scan of the vertices answers
  module _ (scanned : List (List ℤ)) (same : scanned ≡ vertices) where
    pub scan_refused : (fault : Fault) → Stops (IsScanRefusal (dimension_of scanned) scanned) fault → Stops (HasNoPolytope points) fault
    scan_refused fault s = scan_stop fault (subst (λ (vs : List (List ℤ)). Stops (IsScanRefusal (dimension_of vs) vs) fault) same s)

    pub from_scan : (lattice : List (List ℤ)) → AreLatticePoints (dimension_of scanned) scanned lattice → length lattice ≤ 16384
        → IsPolytopeOf points (record { vertices = vertices; facets = facets; points = lattice })
    from_scan lattice are few = made lattice (points_from_vertices points vertices lattice h.least h.solid h.vertices_are
        (subst (λ (vs : List (List ℤ)). AreLatticePoints (dimension_of vs) vs lattice) same are)) few
