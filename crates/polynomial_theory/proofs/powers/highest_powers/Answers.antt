use Rattle.polynomial_theory.proofs.HighPowers.{product_ends, ratio_ends}
use Rattle.polynomial_theory.proofs.powers.highest_powers.Goals as goal

pub returns : goal.returns
returns c k m n A f d h = (product_ends k m n A f d h, ratio_ends k m n A f d h)
