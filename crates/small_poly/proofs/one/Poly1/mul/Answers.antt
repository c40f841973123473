use Rattle.std.proofs.Common.{arith}
use Rattle.lattice_theory.specs.Vector.{entry}
use Rattle.polynomial_theory.specs.Series.{product}
use Rattle.small_poly.proofs.Coefficients.{from_first}
use Rattle.small_poly.proofs.one.Poly1.mul.Goals as goal

pub returns : goal.returns
returns c = from_first c.loop-k.coefficients (product (entry c.args.self.now) (entry c.args.other.now)) c.loop-k.invariant.whole
    (λ j l. c.loop-k.invariant.done j (let f = c.loop-k-test.false in omega arith)) c.requires.degree
