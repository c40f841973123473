use Rattle.dual_pair.proofs.PairLaws.{no_limit_on_the_way_back_lem}
use Rattle.dual_pair.proofs.laws.no_limit_on_the_way_back.Goals as goal

pub returns : goal.returns
returns c = no_limit_on_the_way_back_lem
