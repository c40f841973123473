use Rattle.incidence.proofs.Held.{made_is_held_lem}
use Rattle.incidence.proofs.laws.made_is_held.Goals as goal

pub returns : goal.returns
returns c = made_is_held_lem
