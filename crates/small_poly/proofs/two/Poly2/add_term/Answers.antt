use Rattle.small_poly.specs.Tables.{unit_of}
use Rattle.small_poly.proofs.Laurent.{told_terms, term_added}
use Rattle.small_poly.proofs.two.Poly2.add_term.Goals as goal

pub add_terms-requires-clause-small : goal.add_terms-requires-clause-small
add_terms-requires-clause-small c k l = told_terms (unit_of c.args.negative) c.args.power c.self.inside.coefficients c.coefficients.result.now c.coefficients-2.result.now
    c.args.self.now c.args.left.now c.args.right.now c.self.view_is c.coefficients.ensures c.coefficients-2.ensures c.requires.small k

pub returns : goal.returns
returns c = term_added (unit_of c.args.negative) c.args.power c.self.inside.coefficients c.add_terms.new.sums c.coefficients.result.now c.coefficients-2.result.now
    c.args.self.now c.args.left.now c.args.right.now c.self.view_is c.coefficients.ensures c.coefficients-2.ensures c.self.told c.add_terms.ensures.long c.add_terms.ensures.value
    c.requires.low c.requires.high
