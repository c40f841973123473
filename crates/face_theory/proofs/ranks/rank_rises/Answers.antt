use Rattle.face_theory.proofs.Heights.{rank_rises_lem}
use Rattle.face_theory.proofs.ranks.rank_rises.Goals as goal

pub returns : goal.returns
returns c = rank_rises_lem
