use Rattle.interior_point_theory.proofs.Ones.{ones_are_system_lem}
use Rattle.interior_point_theory.proofs.interior.ones_are_system.Goals as goal

pub returns : goal.returns
returns c = ones_are_system_lem
