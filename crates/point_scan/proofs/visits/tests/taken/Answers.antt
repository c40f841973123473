use Rattle.std.proofs.Common.{◌∙◌}
use Rattle.point_scan.proofs.SegmentSteps.{solid_ends, facets_of_ends}
use Rattle.point_scan.proofs.visits.tests.taken.Goals as goal

pub for_each_dilate-requires-clause-vertices : goal.for_each_dilate-requires-clause-vertices
for_each_dilate-requires-clause-vertices c = solid_ends _ (c.deref.ensures.value ∙ c.in_ok-ends.ensures)

pub for_each_dilate-requires-clause-facets : goal.for_each_dilate-requires-clause-facets
for_each_dilate-requires-clause-facets c = facets_of_ends _ _ (c.deref.ensures.value ∙ c.in_ok-ends.ensures)
    (c.deref-2.ensures.value ∙ c.in_ok-facets.ensures)
