use Rattle.cayley_theory.proofs.PairSums.{counts_by_bases_lem}
use Rattle.cayley_theory.proofs.cones.counts_by_bases.Goals as goal

pub returns : goal.returns
returns c = counts_by_bases_lem
