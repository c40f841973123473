use Rattle.hull_growth.specs.steps.Farthest.{IsFarthestSoFar}
use Rattle.hull_growth.proofs.beyond.narrow_of.Given as goal

abbrev pub invariant-loop-i : goal.invariant-loop-i
invariant-loop-i l = IsFarthestSoFar l.f l.points l.i l.place l.lowest
