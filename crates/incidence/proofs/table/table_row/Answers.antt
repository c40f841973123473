use Rattle.std.proofs.Common.{refl}
use Rattle.incidence.proofs.Bits.{none_at_first}
use Rattle.incidence.proofs.table.table_row.Goals as goal

pub loop-n-init : goal.loop-n-init
loop-n-init c = record { whole = refl; bits = none_at_first 64 0 _ refl }
