use Rattle.facet_theory.proofs.LeastVertex.{least_at_vertex_lem}
use Rattle.facet_theory.proofs.vertex.least_at_vertex.Goals as goal

pub returns : goal.returns
returns c = least_at_vertex_lem
