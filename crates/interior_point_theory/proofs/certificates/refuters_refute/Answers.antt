use Rattle.interior_point_theory.proofs.Tails.{refuters_refute_lem}
use Rattle.interior_point_theory.proofs.certificates.refuters_refute.Goals as goal

pub returns : goal.returns
returns c = refuters_refute_lem
