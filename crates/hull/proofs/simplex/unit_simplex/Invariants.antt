use Rattle.hull.proofs.UnitSimplexSteps.{IsUnitBelow}
use Rattle.hull.proofs.simplex.unit_simplex.Given as goal

abbrev pub invariant-loop-axis : goal.invariant-loop-axis
invariant-loop-axis l = IsUnitBelow l.first l.axis l.corners.items l.functions.items
