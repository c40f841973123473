use Rattle.std.proofs.Common.{List, ℤ, sym, subst}
use Rattle.lattice_theory.specs.Examples.{segment}
use Rattle.lattice_core.specs.Dimensions.{dimension_of}
use Rattle.lattice_core.specs.PointLists.{AreSolidPoints}
use Rattle.hull_growth.specs.Grown.{HasFacets}
use Rattle.hull_growth.proofs.SegmentHull.{solid_segment, segment_hull}
use Rattle.hull_growth.proofs.tests.segment_growth.Goals as goal

pub new-requires-clause-solid : goal.new-requires-clause-solid
new-requires-clause-solid c = subst AreSolidPoints (sym c.in_ok-ends.ensures) solid_segment

pub new-requires-clause-hull : goal.new-requires-clause-hull
new-requires-clause-hull c = subst (λ (ps : List (List ℤ)). HasFacets (dimension_of ps) ps c.in_ok-facets.facets.items)
    (sym c.in_ok-ends.ensures) (subst (HasFacets 1 segment) (sym c.in_ok-facets.ensures) segment_hull)
