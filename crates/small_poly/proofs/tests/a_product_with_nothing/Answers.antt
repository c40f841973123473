use Rattle.small_poly.proofs.Lines.{none_below, none_above, none_first, none_second, none_added}
use Rattle.small_poly.proofs.tests.a_product_with_nothing.Goals as goal

pub add_product-requires-clause-low : goal.add_product-requires-clause-low
add_product-requires-clause-low g c = none_below c.first.result c.second.result c.zero.result c.zero.ensures

pub add_product-requires-clause-high : goal.add_product-requires-clause-high
add_product-requires-clause-high g c = none_above c.first.result c.second.result c.zero.result c.zero.ensures

pub add_product-requires-clause-first : goal.add_product-requires-clause-first
add_product-requires-clause-first g c = none_first c.second.result c.zero.result c.zero.ensures c.second.ensures.degree

pub add_product-requires-clause-second : goal.add_product-requires-clause-second
add_product-requires-clause-second g c = none_second c.first.result c.second.result c.zero.result c.zero.ensures c.first.ensures.degree

pub add_product-requires-clause-small : goal.add_product-requires-clause-small
add_product-requires-clause-small g c = none_added c.zero-p.result c.first.result c.second.result c.zero.result c.zero-p.ensures c.zero.ensures
