use Rattle.face_theory.proofs.FaceTests.{face_is_closure_lem}
use Rattle.face_theory.proofs.faces.face_is_closure.Goals as goal

pub returns : goal.returns
returns c = face_is_closure_lem
