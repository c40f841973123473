use Rattle.polytope_vectors.proofs.hulls.hull_of.Goals as goal

pub vertices_of-requires-clause-facets : goal.vertices_of-requires-clause-facets
vertices_of-requires-clause-facets c = rw c.deref.ensures.value c.in_ok-facets.ensures.facets.members
