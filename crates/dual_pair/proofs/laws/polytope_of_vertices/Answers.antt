use Rattle.dual_pair.proofs.VertexLists.{polytope_of_vertices_lem}
use Rattle.dual_pair.proofs.laws.polytope_of_vertices.Goals as goal

pub returns : goal.returns
returns c = polytope_of_vertices_lem
