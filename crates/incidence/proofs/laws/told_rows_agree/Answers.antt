use Rattle.incidence.proofs.Held.{told_rows_agree_lem}
use Rattle.incidence.proofs.laws.told_rows_agree.Goals as goal

pub returns : goal.returns
returns c = told_rows_agree_lem
