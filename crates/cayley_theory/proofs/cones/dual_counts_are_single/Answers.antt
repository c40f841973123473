use Rattle.cayley_theory.proofs.ConeCounts.{dual_counts_are_single_lem}
use Rattle.cayley_theory.proofs.cones.dual_counts_are_single.Goals as goal

pub returns : goal.returns
returns c = dual_counts_are_single_lem
