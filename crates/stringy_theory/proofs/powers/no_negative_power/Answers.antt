use Rattle.stringy_theory.proofs.LowPowers.{b_starts, numerator_starts}
use Rattle.stringy_theory.proofs.powers.no_negative_power.Goals as goal

pub returns : goal.returns
returns c d ranked small = (numerator_starts d ranked small, b_starts d ranked small)
