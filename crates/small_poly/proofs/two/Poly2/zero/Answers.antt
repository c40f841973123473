use Rattle.small_poly.proofs.Laurent.{laurent_zero}
use Rattle.small_poly.proofs.two.Poly2.zero.Goals as goal

pub returns : goal.returns
returns c = laurent_zero c.zeros.result c.zeros.ensures
