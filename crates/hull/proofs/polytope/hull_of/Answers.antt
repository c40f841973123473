use Rattle.std.proofs.Common.{List, ℤ, sym, subst, rules}
use Rattle.lattice_core.specs.Dimensions.{dimension_of}
use Rattle.lattice_theory.specs.Hull.{AreVertices}
use Rattle.lattice_theory.specs.Affine.{Affine}
use Rattle.lattice_theory.specs.Facet.{AreFacetsInAnyOrder}
use Rattle.hull.proofs.FacetBounds.{facets_within}
use Rattle.hull.proofs.WholeHulls.{whole_vertices}
use Rattle.hull.proofs.polytope.hull_of.Goals as goal

pub all_vertices-requires-clause-facets : goal.all_vertices-requires-clause-facets
all_vertices-requires-clause-facets c =
    subst (λ (cs : List (List ℤ)). AreFacetsInAnyOrder (dimension_of cs) cs c.deref-2.result.now) (sym c.deref.ensures.value)
    (subst (λ (fs : List Affine). AreFacetsInAnyOrder (dimension_of c.in_ok-corners.corners.items) c.in_ok-corners.corners.items fs)
    (sym c.deref-2.ensures.value) c.in_ok-corners.ensures.own)

pub returns-then-len-gt-MOST_VERTICES-clause-refused : goal.returns-then-len-gt-MOST_VERTICES-clause-refused
returns-then-len-gt-MOST_VERTICES-clause-refused c = (
  c.in_ok-width.ensures.solid.sized.within,
  record {
    solid = c.in_ok-width.ensures.solid.solid;
    facets = c.in_ok-corners.facets.items;
    are_facets = c.in_ok-corners.ensures.whole;
    few = search rules;
  },
  record {
    vertices = c.in_ok-vertices.vertices.items;
    are_vertices = whole_vertices c.args.points.now c.in_ok-corners.corners.items c.in_ok-corners.facets.items
        c.in_ok-vertices.vertices.items c.in_ok-width.ensures.solid c.in_ok-corners.ensures
        (subst (λ (cs : List (List ℤ)). AreVertices (dimension_of cs) cs c.in_ok-vertices.vertices.items) c.deref.ensures.value
        c.in_ok-vertices.ensures);
    count = search rules;
    many = search rules;
  },
)

pub returns-clause-vertices : goal.returns-clause-vertices
returns-clause-vertices c = whole_vertices c.args.points.now c.in_ok-corners.corners.items c.in_ok-corners.facets.items
    c.in_ok-vertices.vertices.items c.in_ok-width.ensures.solid c.in_ok-corners.ensures
    (subst (λ (cs : List (List ℤ)). AreVertices (dimension_of cs) cs c.in_ok-vertices.vertices.items) c.deref.ensures.value
    c.in_ok-vertices.ensures)

pub returns-clause-bounded : goal.returns-clause-bounded
returns-clause-bounded c = facets_within (dimension_of c.args.points.now) c.args.points.now c.in_ok-corners.facets.items
    c.requires.points.one_dimension c.in_ok-width.ensures.solid.solid c.in_ok-corners.ensures.whole
