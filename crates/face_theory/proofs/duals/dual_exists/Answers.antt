use Rattle.face_theory.proofs.DualFaces.{dual_exists_lem}
use Rattle.face_theory.proofs.duals.dual_exists.Goals as goal

pub returns : goal.returns
returns c = dual_exists_lem
