use Rattle.face_theory.proofs.ExampleFaces.{square_has, no_diagonal, side_rank, side_corank, corner_dual}
use Rattle.face_theory.proofs.examples.square_faces_are_an_example.Goals as goal

pub returns : goal.returns
returns c = record { faces = square_has; no_face = no_diagonal; rank = side_rank; corank = side_corank; dual = corner_dual }
