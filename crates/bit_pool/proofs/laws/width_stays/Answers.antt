use Rattle.bit_pool.proofs.Stays.{width_stays_lem}
use Rattle.bit_pool.proofs.laws.width_stays.Goals as goal

pub returns : goal.returns
returns c = width_stays_lem
