use Rattle.stringy_theory.proofs.HighPowers.{numerator_ends}
use Rattle.stringy_theory.proofs.powers.no_large_power.Goals as goal

pub returns : goal.returns
returns c = numerator_ends
