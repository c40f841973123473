use Rattle.facet_theory.proofs.VertexHull.{dilate_points_of_vertices_lem}
use Rattle.facet_theory.proofs.dilates.dilate_points_of_vertices.Goals as goal

pub returns : goal.returns
returns c = dilate_points_of_vertices_lem
