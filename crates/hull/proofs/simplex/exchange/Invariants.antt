use Rattle.lattice_core.specs.Dimensions.{dimension_of}
use Rattle.hull.proofs.SimplexTurns.{IsTurnedBelow}
use Rattle.hull.proofs.simplex.exchange.Given as goal

abbrev pub invariant-loop-i : goal.invariant-loop-i
invariant-loop-i l = IsTurnedBelow (dimension_of l.points) l.place l.i l.initial.functions.items l.functions.items l.p l.axis
