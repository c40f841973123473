use Rattle.polytope_vectors.proofs.scans.scan_of.Goals as goal

pub scan-requires-clause-facets : goal.scan-requires-clause-facets
scan-requires-clause-facets c = rw c.deref.ensures.value c.in_ok-facets.ensures.facets.members
