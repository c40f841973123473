use Rattle.cayley_theory.proofs.PartPoints.{part_points_are_single_lem}
use Rattle.cayley_theory.proofs.cones.part_points_are_single.Goals as goal

pub returns : goal.returns
returns c = part_points_are_single_lem
