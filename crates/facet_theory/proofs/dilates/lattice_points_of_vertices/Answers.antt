use Rattle.facet_theory.proofs.VertexHull.{lattice_points_of_vertices_lem}
use Rattle.facet_theory.proofs.dilates.lattice_points_of_vertices.Goals as goal

pub returns : goal.returns
returns c = lattice_points_of_vertices_lem
