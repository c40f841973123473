use Rattle.polytope_vectors.proofs.scans.count_of.Goals as goal

pub count_to-requires-clause-facets : goal.count_to-requires-clause-facets
count_to-requires-clause-facets c = rw c.deref.ensures.value c.in_ok-facets.ensures.facets.members
