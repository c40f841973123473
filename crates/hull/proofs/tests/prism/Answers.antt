use Rattle.lattice_core.proofs.Dimension.{own_dimension}
use Rattle.hull.proofs.tests.prism.Goals as goal

pub returns : goal.returns
returns c = own_dimension 3 c.loop-number.points.items c.loop-number.invariant
