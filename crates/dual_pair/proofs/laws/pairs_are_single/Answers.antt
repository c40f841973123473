use Rattle.dual_pair.proofs.PairLaws.{pairs_are_single_lem}
use Rattle.dual_pair.proofs.laws.pairs_are_single.Goals as goal

pub returns : goal.returns
returns c = pairs_are_single_lem
