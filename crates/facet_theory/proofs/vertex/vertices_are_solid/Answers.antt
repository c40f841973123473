use Rattle.facet_theory.proofs.VertexHull.{vertices_are_solid_lem}
use Rattle.facet_theory.proofs.vertex.vertices_are_solid.Goals as goal

pub returns : goal.returns
returns c = vertices_are_solid_lem
