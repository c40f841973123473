use Rattle.bit_pool.proofs.Stays.{rows_stay_lem}
use Rattle.bit_pool.proofs.laws.rows_stay.Goals as goal

pub returns : goal.returns
returns c = rows_stay_lem
