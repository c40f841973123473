use Rattle.facet_theory.proofs.VertexHull.{hull_of_vertices_lem}
use Rattle.facet_theory.proofs.vertex.hull_of_vertices.Goals as goal

pub returns : goal.returns
returns c = hull_of_vertices_lem
