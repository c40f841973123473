use Rattle.facet_theory.proofs.Vertices.{vertices_by_facets_lem}
use Rattle.facet_theory.proofs.vertex.vertices_by_facets.Goals as goal

pub returns : goal.returns
returns c = vertices_by_facets_lem
