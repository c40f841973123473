use Rattle.small_poly.proofs.SmallSums.{small_sums_lem, small_terms_lem}
use Rattle.small_poly.proofs.laws.sums_are_small.Goals as goal

pub returns-clause-products : goal.returns-clause-products
returns-clause-products c = small_sums_lem

pub returns-clause-terms : goal.returns-clause-terms
returns-clause-terms c = small_terms_lem
