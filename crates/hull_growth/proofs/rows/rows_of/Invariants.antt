use Rattle.std.proofs.Common.{take}
use Rattle.hull_growth.specs.steps.Rows.{AreCornerRows}
use Rattle.hull_growth.proofs.rows.rows_of.Given as goal

abbrev pub invariant-loop-f : goal.invariant-loop-f
invariant-loop-f l = AreCornerRows l.corners (take l.f-index l.functions) l.rows.items
