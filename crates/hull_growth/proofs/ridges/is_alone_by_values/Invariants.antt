use Rattle.hull_growth.specs.steps.Rows.{NoThirdFunctionBelow}
use Rattle.hull_growth.proofs.ridges.is_alone_by_values.Given as goal

abbrev pub invariant-loop-k : goal.invariant-loop-k
invariant-loop-k l = NoThirdFunctionBelow l.k l.corners l.functions l.i l.j
