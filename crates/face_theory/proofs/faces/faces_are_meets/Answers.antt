use Rattle.face_theory.proofs.Meets.{faces_are_meets_lem}
use Rattle.face_theory.proofs.faces.faces_are_meets.Goals as goal

pub returns : goal.returns
returns c = faces_are_meets_lem
