use Rattle.face_theory.proofs.ExampleFaces.{edge_rank, triangle_rank, whole_rank, corner_corank, no_axis}
use Rattle.face_theory.proofs.examples.octahedron_faces_are_an_example.Goals as goal

pub returns : goal.returns
returns c = record { edge = edge_rank; triangle = triangle_rank; whole = whole_rank; corner = corner_corank; no_face = no_axis }
