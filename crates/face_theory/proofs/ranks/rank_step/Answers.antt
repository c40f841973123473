use Rattle.face_theory.proofs.Heights.{rank_step_lem}
use Rattle.face_theory.proofs.ranks.rank_step.Goals as goal

pub returns : goal.returns
returns c = rank_step_lem
