use Rattle.stringy_theory.proofs.Differences.{differences_bound, counts_bound}
use Rattle.stringy_theory.proofs.counts.differences_are_bounded.Goals as goal

pub returns : goal.returns
returns c = record { any = differences_bound; counts = counts_bound }
