use Rattle.stringy_theory.proofs.GapSums.{g_by_gaps_lem}
use Rattle.stringy_theory.proofs.intervals.g_by_gaps.Goals as goal

pub returns : goal.returns
returns c = g_by_gaps_lem
