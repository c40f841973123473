use Rattle.small_poly.specs.Tables.{unit_of}
use Rattle.small_poly.proofs.Laurent.{told_first, told_second, told_products, product_added}
use Rattle.small_poly.proofs.two.Poly2.add_product.Goals as goal

pub add_products-requires-clause-first : goal.add_products-requires-clause-first
add_products-requires-clause-first c = told_first c.coefficients-2.result.now c.inner.inside.coefficients c.args.right.now c.args.inner.now
    c.coefficients-2.ensures c.inner.view_is c.requires.first

pub add_products-requires-clause-second : goal.add_products-requires-clause-second
add_products-requires-clause-second c = told_second c.coefficients.result.now c.coefficients-2.result.now c.inner.inside.coefficients
    c.args.left.now c.args.right.now c.args.inner.now c.coefficients.ensures c.coefficients-2.ensures c.inner.view_is c.requires.second

pub add_products-requires-clause-small : goal.add_products-requires-clause-small
add_products-requires-clause-small c k l = told_products (unit_of c.args.negative) c.self.inside.coefficients c.coefficients.result.now c.coefficients-2.result.now
    c.inner.inside.coefficients c.args.self.now c.args.left.now c.args.right.now c.args.inner.now
    c.self.view_is c.coefficients.ensures c.coefficients-2.ensures c.inner.view_is c.requires.small k

pub returns : goal.returns
returns c = product_added (unit_of c.args.negative) c.self.inside.coefficients c.add_products.new.sums c.coefficients.result.now c.coefficients-2.result.now
    c.inner.inside.coefficients c.args.self.now c.args.left.now c.args.right.now c.args.inner.now
    c.self.view_is c.coefficients.ensures c.coefficients-2.ensures c.inner.view_is c.self.told c.add_products.ensures.long c.add_products.ensures.value
    c.requires.low c.requires.high
