use Rattle.face_theory.proofs.DualFaces.{dual_reverses_lem}
use Rattle.face_theory.proofs.duals.dual_reverses.Goals as goal

pub returns : goal.returns
returns c = dual_reverses_lem
