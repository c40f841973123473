use Rattle.hull.proofs.SimplexAxes.{IsFarthest}
use Rattle.hull.proofs.simplex.farthest_wide.Given as goal

abbrev pub invariant-loop-i : goal.invariant-loop-i
invariant-loop-i l = IsFarthest l.points l.f l.i l.far l.largest
