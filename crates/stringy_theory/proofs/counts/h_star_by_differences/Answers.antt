use Rattle.stringy_theory.proofs.Differences.{alternating_is_differences}
use Rattle.stringy_theory.proofs.counts.h_star_by_differences.Goals as goal

pub returns : goal.returns
returns c = alternating_is_differences
