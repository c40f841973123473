use Rattle.incidence.proofs.Held.{rows_tell_lem}
use Rattle.incidence.proofs.laws.rows_tell.Goals as goal

pub returns : goal.returns
returns c = rows_tell_lem
