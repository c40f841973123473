use Rattle.cayley.proofs.TopRanks.{cone_top_rank_bound_lem}
use Rattle.cayley.proofs.laws.cone_top_rank_bound.Goals as goal

pub returns : goal.returns
returns c = cone_top_rank_bound_lem
