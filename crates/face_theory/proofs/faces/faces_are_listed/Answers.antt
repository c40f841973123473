use Rattle.face_theory.proofs.FaceLists.{faces_are_listed_lem}
use Rattle.face_theory.proofs.faces.faces_are_listed.Goals as goal

pub returns : goal.returns
returns c = faces_are_listed_lem
