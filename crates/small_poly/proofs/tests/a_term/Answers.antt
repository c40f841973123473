use Rattle.std.proofs.Common.{negsuc, arith}
use Rattle.lattice_theory.specs.Vector.{entry}
use Rattle.small_poly.proofs.FittingTerms.{terms_fit_lem}
use Rattle.small_poly.proofs.Lines.{lines_products, lines_term}
use Rattle.small_poly.proofs.tests.a_term.Goals as goal

pub add_term-requires-clause-low : goal.add_term-requires-clause-low
add_term-requires-clause-low g c = (terms_fit_lem (negsuc 0) 1 1 1 (entry c.first.result) (entry c.second.result) c.first.ensures.degree c.second.ensures.degree
    (omega arith) (omega arith) (omega arith)).0

pub add_term-requires-clause-high : goal.add_term-requires-clause-high
add_term-requires-clause-high g c = (terms_fit_lem (negsuc 0) 1 1 1 (entry c.first.result) (entry c.second.result) c.first.ensures.degree c.second.ensures.degree
    (omega arith) (omega arith) (omega arith)).1

pub add_term-requires-clause-products : goal.add_term-requires-clause-products
add_term-requires-clause-products g c = lines_products c.first.result c.second.result c.first.ensures.size c.second.ensures.size

pub add_term-requires-clause-small : goal.add_term-requires-clause-small
add_term-requires-clause-small g c = lines_term c.zero-p.result c.first.result c.second.result 1 c.zero-p.ensures c.first.ensures.size c.second.ensures.size
