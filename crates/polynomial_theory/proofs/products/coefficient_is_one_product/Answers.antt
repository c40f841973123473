use Rattle.polynomial_theory.proofs.Places.{place_found, place_none}
use Rattle.polynomial_theory.proofs.products.coefficient_is_one_product.Goals as goal

pub returns : goal.returns
returns c k r p A B = (place_found k r p A B, place_none k r p A B)
