use Rattle.interior_point_theory.proofs.Tails.{interior_by_tails_lem}
use Rattle.interior_point_theory.proofs.interior.interior_by_tails.Goals as goal

pub returns : goal.returns
returns c = interior_by_tails_lem
