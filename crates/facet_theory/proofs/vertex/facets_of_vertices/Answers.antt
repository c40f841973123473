use Rattle.facet_theory.proofs.LeastVertex.{facets_of_vertices_lem}
use Rattle.facet_theory.proofs.vertex.facets_of_vertices.Goals as goal

pub returns : goal.returns
returns c = facets_of_vertices_lem
