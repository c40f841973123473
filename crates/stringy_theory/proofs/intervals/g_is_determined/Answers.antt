use Rattle.stringy_theory.proofs.UniqueIntervals.{g_meets, g_dual_meets, g_only, g_dual_only, g_degree}
use Rattle.stringy_theory.proofs.intervals.g_is_determined.Goals as goal

pub returns-clause-exists : goal.returns-clause-exists
returns-clause-exists c o r = (g_meets o r, g_dual_meets o r)

pub returns-clause-single : goal.returns-clause-single
returns-clause-single c = g_only

pub returns-clause-single_dual : goal.returns-clause-single_dual
returns-clause-single_dual c = g_dual_only

pub returns-clause-degree : goal.returns-clause-degree
returns-clause-degree c = g_degree
