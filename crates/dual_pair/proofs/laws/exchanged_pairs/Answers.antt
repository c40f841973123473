use Rattle.dual_pair.proofs.PairLaws.{exchanged_pairs_lem}
use Rattle.dual_pair.proofs.laws.exchanged_pairs.Goals as goal

pub returns : goal.returns
returns c = exchanged_pairs_lem
