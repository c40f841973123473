use Rattle.palp_engine.proofs.ItemPieces.{ones_tell}
use Rattle.palp_engine.proofs.laws.ones_tell_reflexive.Goals as goal

pub returns : goal.returns
returns c = ones_tell
