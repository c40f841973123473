use Rattle.incidence.proofs.Held.{held_stays_lem}
use Rattle.incidence.proofs.laws.held_stays.Goals as goal

pub returns : goal.returns
returns c = held_stays_lem
