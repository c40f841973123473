use Rattle.incidence.specs.RowSteps.{AddsRows, IsTableRow}
use Rattle.incidence.proofs.table.push_table.Given as goal

abbrev pub invariant-loop-k : goal.invariant-loop-k
invariant-loop-k l = record { adds : AddsRows l.fn.pool l.pool l.k (IsTableRow l.tight l.row_step l.count l.step) }
