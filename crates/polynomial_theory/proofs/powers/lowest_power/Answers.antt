use Rattle.polynomial_theory.proofs.LowPowers.{product_starts, ratio_starts}
use Rattle.polynomial_theory.proofs.powers.lowest_power.Goals as goal

pub returns : goal.returns
returns c m n A f h = (product_starts m A f h, λ d. ratio_starts m n A f d h)
