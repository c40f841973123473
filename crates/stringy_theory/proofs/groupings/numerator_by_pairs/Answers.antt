use Rattle.stringy_theory.proofs.Numerator.{numerator_by_pairs_lem}
use Rattle.stringy_theory.proofs.groupings.numerator_by_pairs.Goals as goal

pub returns : goal.returns
returns c = numerator_by_pairs_lem
