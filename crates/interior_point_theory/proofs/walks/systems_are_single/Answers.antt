use Rattle.interior_point_theory.proofs.Degrees.{systems_are_single_lem}
use Rattle.interior_point_theory.proofs.walks.systems_are_single.Goals as goal

pub returns : goal.returns
returns c = systems_are_single_lem
