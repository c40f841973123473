use Rattle.face_theory.proofs.DualFaces.{dual_tells_lem}
use Rattle.face_theory.proofs.duals.dual_tells.Goals as goal

pub returns : goal.returns
returns c = dual_tells_lem
