use Rattle.std.proofs.Common.{◌∙◌}
use Rattle.point_scan.proofs.SegmentSteps.{solid_ends, facets_of_ends}
use Rattle.point_scan.proofs.points.tests.numbers.Goals as goal

pub scan-requires-clause-vertices : goal.scan-requires-clause-vertices
scan-requires-clause-vertices c = solid_ends _ (c.deref.ensures.value ∙ c.in_ok-ends.ensures)

pub scan-requires-clause-facets : goal.scan-requires-clause-facets
scan-requires-clause-facets c = facets_of_ends _ _ (c.deref.ensures.value ∙ c.in_ok-ends.ensures)
    (c.deref-2.ensures.value ∙ c.in_ok-facets.ensures)

pub count_to-requires-clause-vertices : goal.count_to-requires-clause-vertices
count_to-requires-clause-vertices c = solid_ends _ (c.deref-3.ensures.value ∙ c.in_ok-ends.ensures)

pub count_to-requires-clause-facets : goal.count_to-requires-clause-facets
count_to-requires-clause-facets c = facets_of_ends _ _ (c.deref-3.ensures.value ∙ c.in_ok-ends.ensures)
    (c.deref-4.ensures.value ∙ c.in_ok-facets.ensures)
