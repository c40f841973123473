use Rattle.polynomial_theory.proofs.Times.{times_of_product}
use Rattle.polynomial_theory.proofs.products.product_is_both_factors.Goals as goal

pub returns : goal.returns
returns c = times_of_product
