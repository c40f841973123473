use Rattle.face_theory.proofs.FaceTests.{meets_are_faces_lem}
use Rattle.face_theory.proofs.faces.meets_are_faces.Goals as goal

pub returns : goal.returns
returns c = meets_are_faces_lem
