use Rattle.small_poly.proofs.Laurent.{told_sums}
use Rattle.small_poly.proofs.two.Poly2.add.Goals as goal

pub add_each-requires-clause-small : goal.add_each-requires-clause-small
add_each-requires-clause-small c = told_sums c.self.inside.coefficients c.other.inside.coefficients c.args.self.now c.args.other.now c.self.view_is c.other.view_is c.requires
