-- What the counts of facets, vertices and lattice points say of points.
use Rattle.std.specs.Prelude.{◌↔◌, ℤ, IsTrue, false}
use Rattle.std.proofs.Common.{◌≡◌, ℕ, ◌<◌, ◌≤◌, List, length, arith, rules, sym, subst, ◌∙◌}
use Rattle.lattice_theory.specs.Affine.{Affine}
use Rattle.lattice_theory.specs.Hull.{AreVertices}
use Rattle.lattice_theory.specs.Facet.{IsFlat, AreFacetsInAnyOrder}
use Rattle.lattice_theory.specs.Points.{IsLatticePoint, AreLatticePoints, IsDilatePoint}
use Rattle.lattice_core.specs.Dimensions.{dimension_of}
use Rattle.lattice_core.specs.Limits.{IsSized}
use Rattle.lattice_core.specs.PointLists.{AreSolidPoints}
use Rattle.lattice_core.specs.Stops.{Stops}
use Rattle.lattice_core.specs.declared.faults.Fault.{Fault}
use Rattle.lattice_core.specs.declared.faults.Fault.TheVariants as faults
use Rattle.lattice_core.specs.declared.faults.Refusal.TheVariants.{Flat, Limit}
use Rattle.lattice_core.specs.declared.faults.LimitName.{LimitName}
use Rattle.lattice_core.proofs.Dimension.{dimension_is}
use Rattle.facet_theory.specs.Solid.{AreSolid}
use Rattle.facet_theory.proofs.LeastVertex.{facets_of_vertices_lem}
use Rattle.facet_theory.proofs.VertexHull.{some_vertex_lem, vertices_are_solid_lem, vertices_are_small_lem, lattice_points_of_vertices_lem}
use Rattle.facet_theory.proofs.DilateBoxes.{first_dilate_is_hull_lem}
use Rattle.palp_input.specs.Grammar.{Listed, ListedWeights, ListedPoints}
use Rattle.palp_input.specs.Items.{IsItem}
use Rattle.item_points.specs.Points.{HasPoints, AreItemPoints}
use Rattle.item_points.proofs.WeightPoints.{weight_points_are_few}
use Rattle.item_points.proofs.WeightLattice.{weight_points_are_all}
use Rattle.point_scan.specs.Dilates.{AreDilatePoints, CountsDilatePoints}
use Rattle.point_scan.specs.Faults.{IsScanRefusal}
use Rattle.hull.specs.Faults.{HaveFewFacets}
use Rattle.palp_engine.specs.Reports.{HaveFewVertices, HaveManyPoints, IsRefused, many_points}
use Rattle.palp_engine.specs.RunSteps.{CountsLatticePoints, AreAllAndFew, ArePassed, IsLattice, IsWeightLine}
use Rattle.palp_engine.specs.declared.polytopes.Lattice.{Lattice}

-- an item's points that aren't flat
pub item_solid : (points : List (List ℤ)) → AreItemPoints points → (IsFlat (dimension_of points) points → ⊥)
    → AreSolid (dimension_of points) points
item_solid points h solid =
    let least = h.least in
    record { coordinates = omega (arith, least); dimension = h.sized.are_points.one_dimension; solid = solid }

module _ (n : ℕ) (points vertices : List (List ℤ)) (solid : AreSolid n points) (are : AreVertices n points vertices) where
  -- the vertices have the points' dimension
  first : dimension_of vertices ≡ n
  first =
      dimension_is n vertices (some_vertex_lem n points vertices solid are.members)
      (vertices_are_solid_lem n points vertices solid are.members).dimension

  -- what a count asks of the vertices and their facets
  pub solid_vertices : IsSized n points → AreSolidPoints vertices
  solid_vertices small =
      let own = vertices_are_solid_lem n points vertices solid are.members in
      let bound = vertices_are_small_lem n points vertices are.members in
      let some = some_vertex_lem n points vertices solid are.members in
      record {
        sized = record {
          are_points = record { some = some; one_dimension = rw first own.dimension };
          within = rw first (omega (arith, bound, small));
        };
        solid = rw first own.solid;
      }

  pub vertices_facets : (facets : List Affine) → AreFacetsInAnyOrder n points facets
      → AreFacetsInAnyOrder (dimension_of vertices) vertices facets
  vertices_facets facets fs = rw first (λ f.
      let same = facets_of_vertices_lem n points vertices solid are.members f in
      let listed = fs f in
      (λ c. same.0 (listed.0 c), λ h. listed.1 (same.1 h)))

  -- the lattice points of the vertices, taken once, are those of the points
  lattice_once : (x : List ℤ) → IsDilatePoint n vertices 1 x ↔ IsLatticePoint n points x
  lattice_once x =
      let once = first_dilate_is_hull_lem n vertices (vertices_are_solid_lem n points vertices solid are.members) x in
      let same = lattice_points_of_vertices_lem n points vertices solid are.members x in
      (λ d. same.1 (once.0 d), λ p. once.1 (same.0 p))

  lattice_of_vertices : (lattice : List (List ℤ)) → AreDilatePoints n vertices 1 lattice → AreLatticePoints n points lattice
  lattice_of_vertices lattice ls = record {
    ascends = ls.ascends;
    members = λ x.
        let same = lattice_once x in
        let listed = ls.members x in
        (λ c. same.0 (listed.0 c), λ h. listed.1 (same.1 h));
  }

  pub counts_lattice : (limit counted : ℕ) → CountsDilatePoints (dimension_of vertices) vertices 1 limit counted
      → CountsLatticePoints n points limit counted
  counts_lattice limit counted c = record {
    lattice = c.lattice;
    are_lattice_points = lattice_of_vertices c.lattice (rw first at c.are_dilate_points);
    counted_is = c.counted_is;
  }

-- the points of a weight line are all lattice points
pub line_points_all : (item : Listed) (points : List (List ℤ)) → IsItem item → IsWeightLine item → HasPoints item points → AreAllAndFew points
line_points_all (ListedWeights systems) points i w h = record {
  all = weight_points_are_all systems points i.well_formed h.are_points;
  few = weight_points_are_few systems points h.are_points;
}
line_points_all (ListedPoints lines columns entries) points i w h = absurd w

-- the lattice points of the vertices are those of the points
lattice_moved : (n : ℕ) (points vertices lattice : List (List ℤ)) → AreSolid n points → AreVertices n points vertices
    → AreLatticePoints n vertices lattice → AreLatticePoints n points lattice
lattice_moved n points vertices lattice solid are ls = record {
  ascends = ls.ascends;
  members = λ x.
      let same = lattice_points_of_vertices_lem n points vertices solid are.members x in
      let listed = ls.members x in
      (λ c. same.1 (listed.0 c), λ h. listed.1 (same.0 h));
}

module _ (n : ℕ) (points : List (List ℤ)) (facets : List Affine) (vertices : List (List ℤ)) (p : ArePassed n points facets vertices) where
  abbrev pub few_faces : HaveFewFacets n points
  few_faces = record { solid = p.solid.solid; facets = facets; are_facets = p.are_facets; few = p.few_facets }

  abbrev pub passed : HaveFewVertices n points
  passed = record { faces = few_faces; vertices = vertices; are_vertices = p.are_vertices; few = p.few_vertices }

  -- what a scan of the vertices asks
  pub scanned_vertices : AreSolidPoints vertices
  scanned_vertices = solid_vertices n points vertices p.solid p.are_vertices p.sized

  pub scanned_facets : AreFacetsInAnyOrder (dimension_of vertices) vertices facets
  scanned_facets = vertices_facets n points vertices p.solid p.are_vertices facets p.are_facets.members

  pub all_counted : (limit counted : ℕ) → CountsDilatePoints (dimension_of vertices) vertices 1 limit counted
      → CountsLatticePoints n points limit counted
  all_counted = counts_lattice n points vertices p.solid p.are_vertices

  pub all_scanned : (lattice : List (List ℤ)) → AreLatticePoints (dimension_of vertices) vertices lattice → AreLatticePoints n points lattice
  all_scanned lattice ls = lattice_moved n points vertices lattice p.solid p.are_vertices
      (rw (first n points vertices p.solid p.are_vertices) at ls)

  -- a scan finds more lattice points than an item may have
  pub many_scanned : (fault : Fault) → Stops (IsScanRefusal (dimension_of vertices) vertices) fault → Stops (IsRefused n points) fault
  many_scanned (faults.Refused (Flat f)) h = absurd h
  many_scanned (faults.Refused (Limit name told)) h = subst (λ (x : LimitName). IsRefused n points (Limit x told)) (sym h.0)
      (many_points (record {
        polytope = passed;
        lattice = h.2.lattice;
        are_lattice_points = all_scanned h.2.lattice h.2.are_lattice_points;
        many = h.2.more;
        told_is = h.1;
      }))
  many_scanned faults.NoMemory h = h

  module _ (counted : ℕ) (counts : CountsLatticePoints n points 16384 counted) where
    -- more lattice points than an item may have
    pub many_counted : (told : ℕ) → 16384 < counted → told ≡ counted → HaveManyPoints n points told
    many_counted told many is =
        let e = counts.counted_is in
        record {
          polytope = passed;
          lattice = counts.lattice;
          are_lattice_points = counts.are_lattice_points;
          many = omega arith;
          told_is = omega arith;
        }

    -- few lattice points, which aren't listed
    pub few_counted : (lattice : Lattice) → counted ≤ 16384 → lattice.count ≡ counted → IsLattice n points false lattice
    few_counted lattice few is =
        let e = counts.counted_is in
        let all : length counts.lattice ≡ counted = omega arith in
        record {
          list = counts.lattice;
          are_lattice_points = counts.are_lattice_points;
          few = omega arith;
          count_is = is ∙ sym all;
          listed_is = λ t. absurd (not_true t);
        }
      where
        not_true : IsTrue false → ⊥
        not_true t = search rules
