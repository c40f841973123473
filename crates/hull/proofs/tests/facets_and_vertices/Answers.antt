use Rattle.hull.proofs.tests.facets_and_vertices.Goals as goal

pub vertices_of-vertices-requires-clause-facets : goal.vertices_of-vertices-requires-clause-facets
vertices_of-vertices-requires-clause-facets c = rw c.deref.ensures.value c.in_ok-facets.ensures.facets.members
