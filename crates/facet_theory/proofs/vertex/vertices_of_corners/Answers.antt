use Rattle.facet_theory.proofs.Corners.{vertices_of_corners_lem}
use Rattle.facet_theory.proofs.vertex.vertices_of_corners.Goals as goal

pub returns : goal.returns
returns c = vertices_of_corners_lem
