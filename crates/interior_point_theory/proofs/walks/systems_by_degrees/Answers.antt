use Rattle.interior_point_theory.proofs.Degrees.{systems_by_degrees_lem}
use Rattle.interior_point_theory.proofs.walks.systems_by_degrees.Goals as goal

pub returns : goal.returns
returns c = systems_by_degrees_lem
