use Rattle.poset_g.proofs.NumberedFaces.{ranks_rise_lem}
use Rattle.poset_g.proofs.laws.ranks_rise.Goals as goal

pub returns : goal.returns
returns c = ranks_rise_lem
