use Rattle.hull.proofs.Steps.{AreApartBelow}
use Rattle.hull.proofs.reduction.multiples_apart.Given as goal

abbrev pub invariant-loop-i : goal.invariant-loop-i
invariant-loop-i l = AreApartBelow l.a l.x l.b l.y l.i l.entries.items
