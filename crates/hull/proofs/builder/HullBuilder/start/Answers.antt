use Rattle.std.proofs.Common.{List, ℤ, sym, subst}
use Rattle.lattice_core.specs.Dimensions.{dimension_of}
use Rattle.hull_growth.specs.Grown.{HasFacets}
use Rattle.hull.proofs.BuilderFacts.{has_facets}
use Rattle.hull.proofs.Growing.{built_first}
use Rattle.hull.proofs.builder.HullBuilder.start.Goals as goal

pub new-requires-clause-hull : goal.new-requires-clause-hull
new-requires-clause-hull c = subst (λ (ps : List (List ℤ)). HasFacets (dimension_of ps) ps c.in_ok-_corners.facets.items)
    (sym c.in_ok-copied_points.ensures)
    (has_facets (dimension_of c.args.points.now) c.args.points.now c.in_ok-_corners.facets.items c.in_ok-_corners.ensures.whole)

pub invariant_of-result : goal.invariant_of-result
invariant_of-result c = built_first c.args.points.now c.in_ok-points.points.items c.in_ok-copied_points.field-0.items
    c.in_ok-_corners.facets.items c.in_ok-growth.growth c.in_ok-points.ensures c.in_ok-copied_points.ensures c.in_ok-growth.ensures.corners
    c.in_ok-growth.ensures.facets c.in_ok-width.ensures.solid c.in_ok-_corners.ensures.whole

pub returns-clause-facets : goal.returns-clause-facets
returns-clause-facets c = subst (HasFacets (dimension_of c.args.points.now) c.args.points.now) (sym c.in_ok-growth.ensures.facets)
    (has_facets (dimension_of c.args.points.now) c.args.points.now c.in_ok-_corners.facets.items c.in_ok-_corners.ensures.whole)
