use Rattle.face_theory.proofs.Meets.{meets_start_lem}
use Rattle.face_theory.proofs.faces.meets_start.Goals as goal

pub returns : goal.returns
returns c = meets_start_lem
