use Rattle.cayley_theory.proofs.ConeCounts.{counts_are_single_lem}
use Rattle.cayley_theory.proofs.cones.counts_are_single.Goals as goal

pub returns : goal.returns
returns c = counts_are_single_lem
