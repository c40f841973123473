use Rattle.weight_tails.proofs.Sizes.{tails_are_small_lem}
use Rattle.weight_tails.proofs.laws.tails_are_small.Goals as goal

pub returns : goal.returns
returns c = tails_are_small_lem
