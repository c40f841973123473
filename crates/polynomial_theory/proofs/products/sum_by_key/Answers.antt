use Rattle.lattice_theory.proofs.Members.{contains_from_in}
use Rattle.polynomial_theory.proofs.KeySums.{sum_by_key_lem}
use Rattle.polynomial_theory.proofs.products.sum_by_key.Goals as goal

pub returns : goal.returns
returns c xs key n f h = sum_by_key_lem xs key n f (λ x i. h x (contains_from_in i))
