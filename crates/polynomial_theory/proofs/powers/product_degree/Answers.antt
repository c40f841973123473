use Rattle.polynomial_theory.proofs.ProductDegrees.{product_degree_lem}
use Rattle.polynomial_theory.proofs.powers.product_degree.Goals as goal

pub returns : goal.returns
returns c = product_degree_lem
