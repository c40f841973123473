use Rattle.face_theory.proofs.Heights.{corank_step_lem}
use Rattle.face_theory.proofs.ranks.corank_step.Goals as goal

pub returns : goal.returns
returns c = corank_step_lem
