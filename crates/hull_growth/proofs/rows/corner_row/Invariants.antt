use Rattle.std.proofs.Common.{take}
use Rattle.hull_growth.specs.steps.Rows.{IsCornerRow}
use Rattle.hull_growth.proofs.rows.corner_row.Given as goal

abbrev pub invariant-loop-i : goal.invariant-loop-i
invariant-loop-i l = IsCornerRow (take l.i l.corners) l.f l.row
