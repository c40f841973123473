use Rattle.face_theory.proofs.Heights.{rank_is_unique_lem}
use Rattle.face_theory.proofs.ranks.rank_is_unique.Goals as goal

pub returns : goal.returns
returns c = rank_is_unique_lem
