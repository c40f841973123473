use Rattle.face_theory.proofs.FaceTests.{faces_are_counted_lem}
use Rattle.face_theory.proofs.faces.faces_are_counted.Goals as goal

pub returns : goal.returns
returns c = faces_are_counted_lem
