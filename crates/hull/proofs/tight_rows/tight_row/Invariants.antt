use Rattle.hull.proofs.TightRows.{IsTightBelow}
use Rattle.hull.proofs.tight_rows.tight_row.Given as goal

abbrev pub invariant-loop-i : goal.invariant-loop-i
invariant-loop-i l = IsTightBelow l.i l.functions l.p l.row
