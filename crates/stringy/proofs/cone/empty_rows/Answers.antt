use Rattle.small_poly.proofs.Laurent.{zero_entries}
use Rattle.stringy.proofs.cone.empty_rows.Goals as goal

pub returns : goal.returns
returns c j = zero_entries 32768 j
