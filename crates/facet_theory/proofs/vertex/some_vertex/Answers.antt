use Rattle.facet_theory.proofs.VertexHull.{some_vertex_lem}
use Rattle.facet_theory.proofs.vertex.some_vertex.Goals as goal

pub returns : goal.returns
returns c = some_vertex_lem
