use Rattle.face_theory.proofs.DualFaces.{dual_is_unique_lem}
use Rattle.face_theory.proofs.duals.dual_is_unique.Goals as goal

pub returns : goal.returns
returns c = dual_is_unique_lem
