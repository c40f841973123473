use Rattle.polytope_vectors.proofs.visits.takes.Goals as goal

pub for_each_dilate-requires-clause-facets : goal.for_each_dilate-requires-clause-facets
for_each_dilate-requires-clause-facets c = rw c.deref.ensures.value c.in_ok-facets.ensures.facets.members
