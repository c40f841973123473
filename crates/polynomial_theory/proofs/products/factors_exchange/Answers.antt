use Rattle.polynomial_theory.proofs.Times.{times_exchange}
use Rattle.polynomial_theory.proofs.products.factors_exchange.Goals as goal

pub returns : goal.returns
returns c = times_exchange
