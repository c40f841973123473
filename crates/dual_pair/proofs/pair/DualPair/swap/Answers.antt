use Rattle.dual_pair.proofs.DualSides.{exchanged_pair}
use Rattle.dual_pair.proofs.pair.DualPair.swap.Goals as goal

pub invariant_of-result : goal.invariant_of-result
invariant_of-result c = exchanged_pair (record { m = c.self.inside.m; n = c.self.inside.n }) c.self.invariant
