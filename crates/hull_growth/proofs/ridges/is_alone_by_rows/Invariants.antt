use Rattle.hull_growth.specs.steps.Rows.{NoThirdRowBelow}
use Rattle.hull_growth.proofs.ridges.is_alone_by_rows.Given as goal

abbrev pub invariant-loop-k : goal.invariant-loop-k
invariant-loop-k l = NoThirdRowBelow l.k l.rows l.i l.j
