use Rattle.std.specs.Prelude.{IsTrue, ◌↔◌}
use Rattle.std.specs.List.{All}
use Rattle.std.proofs.Common.{◌≡◌, List, pos, sym, subst}
use Rattle.lattice_theory.specs.Affine.{Affine}
use Rattle.lattice_core.specs.Dimensions.{dimension_of}
use Rattle.duality_theory.specs.Reflexive.{IsReflexive}
use Rattle.dual_pair.specs.Polytopes.{PolytopeState, IsPolytope}
use Rattle.dual_pair.proofs.VertexLists.{reflexive}
use Rattle.dual_pair.proofs.polytope.Polytope.is_reflexive.Goals as goal

pub returns : goal.returns
returns c =
    let inside = c.self.inside in
    let vertices = c.self.inside.vertices.items in
    let facets = c.self.inside.facets.items in
    let holds : (c.self.inside.dim ≡ dimension_of vertices)
    × IsPolytope (record { vertices = vertices; facets = facets; points = c.self.inside.points.items }) = c.self.invariant in
    let own = reflexive (dimension_of vertices) vertices facets holds.1.facets_are in
    subst (λ (p : PolytopeState). IsTrue c.are_ones.result ↔ IsReflexive (dimension_of p.vertices) p.vertices) c.self.view_is (
      λ t. own.0 (subst (λ (fs : List Affine). All (λ f. f.constant ≡ pos 1) fs) c.deref.ensures.value (c.are_ones.ensures.0 t)),
      λ r. c.are_ones.ensures.1 (subst (λ (fs : List Affine). All (λ f. f.constant ≡ pos 1) fs) (sym c.deref.ensures.value) (own.1 r)),
    )
