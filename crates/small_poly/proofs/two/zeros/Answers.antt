use Rattle.small_poly.proofs.Laurent.{zero_entries}
use Rattle.small_poly.proofs.two.zeros.Goals as goal

pub returns : goal.returns
returns c k = zero_entries 289 k
