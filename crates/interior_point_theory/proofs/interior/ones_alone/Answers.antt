use Rattle.interior_point_theory.proofs.Ones.{ones_alone_lem}
use Rattle.interior_point_theory.proofs.interior.ones_alone.Goals as goal

pub returns : goal.returns
returns c = ones_alone_lem
