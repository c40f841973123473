use Rattle.item_points.proofs.WeightPoints.{weight_points_are_few}
use Rattle.item_points.proofs.WeightLattice.{weight_points_are_all}
use Rattle.item_points.proofs.laws.weight_points_are_lattice_points.Goals as goal

pub returns : goal.returns
returns c = record { all = weight_points_are_all; few = weight_points_are_few }
