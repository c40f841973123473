use Rattle.interior_point_theory.proofs.Tails.{surrounded_tails_confirm_lem}
use Rattle.interior_point_theory.proofs.certificates.surrounded_tails_confirm.Goals as goal

pub returns : goal.returns
returns c = surrounded_tails_confirm_lem
