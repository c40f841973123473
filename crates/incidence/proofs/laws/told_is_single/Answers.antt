use Rattle.incidence.proofs.Held.{told_is_single_lem}
use Rattle.incidence.proofs.laws.told_is_single.Goals as goal

pub returns : goal.returns
returns c = told_is_single_lem
