use Rattle.stringy_theory.proofs.RisingRanks.{ranks_suffice_lem}
use Rattle.stringy_theory.proofs.ranks.ranks_suffice.Goals as goal

pub returns : goal.returns
returns c = ranks_suffice_lem
