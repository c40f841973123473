use Rattle.facet_theory.proofs.VertexHull.{vertices_are_small_lem}
use Rattle.facet_theory.proofs.vertex.vertices_are_small.Goals as goal

pub returns : goal.returns
returns c = vertices_are_small_lem
