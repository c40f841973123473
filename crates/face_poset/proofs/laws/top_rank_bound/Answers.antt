use Rattle.face_poset.proofs.TopRanks.{top_rank_bound_lem}
use Rattle.face_poset.proofs.laws.top_rank_bound.Goals as goal

pub returns : goal.returns
returns c = top_rank_bound_lem
