use Rattle.face_theory.proofs.MeetRanks.{rank_by_meets_lem}
use Rattle.face_theory.proofs.ranks.rank_by_meets.Goals as goal

pub returns : goal.returns
returns c = rank_by_meets_lem
