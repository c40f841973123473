use Rattle.hull.proofs.tests.points_in.Goals as goal
use Rattle.lattice_core.proofs.Dimension.{own_dimension, dimension_is}

pub returns : goal.returns
returns c = record {
  one_dimension = own_dimension c.args.n c.loop-row.points.items c.loop-row.invariant;
  dimension = λ some. dimension_is c.args.n c.loop-row.points.items some c.loop-row.invariant;
}
