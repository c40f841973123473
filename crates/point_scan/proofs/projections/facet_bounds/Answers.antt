use Rattle.std.proofs.Common.{ℕ, length, sym, ap, subst, ◌∙◌}
use Rattle.lattice_core.specs.Dimensions.{dimension_of}
use Rattle.lattice_theory.specs.Facet.{IsFacet}
use Rattle.point_scan.specs.ProjectionSteps.{IsBound}
use Rattle.point_scan.proofs.BoundSteps.{vertices_small, bounds_more}
use Rattle.point_scan.proofs.projections.facet_bounds.Goals as goal

pub bound_at-requires-clause-small : goal.bound_at-requires-clause-small
bound_at-requires-clause-small c = vertices_small c.args.vertices.now c.requires.vertices

pub loop-facet-preserved : goal.loop-facet-preserved
loop-facet-preserved c =
    let points = c.args.vertices.now in
    let facet : IsFacet (dimension_of points) points c.facet-item.result =
    (c.requires.facets c.facet-item.result).0 (c.loop-facet.facet-index, c.loop-facet-test.true, sym c.facet-item.is) in
    bounds_more (dimension_of points) points c.loop-facet.bounds.items c.push.new.self.items c.bound_at.result c.in_ok-push.ensures.items
    c.loop-facet.invariant
    (subst (λ (m : ℕ). IsBound m points c.bound_at.result.function) (ap length c.normal.ensures.value ∙ facet.dimension) c.bound_at.ensures)
