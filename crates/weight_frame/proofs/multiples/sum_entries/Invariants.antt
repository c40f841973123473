use Rattle.weight_frame.proofs.MultipleSteps.{AreSumsBelow}
use Rattle.weight_frame.proofs.multiples.sum_entries.Given as goal

abbrev pub invariant-loop-i : goal.invariant-loop-i
invariant-loop-i l = AreSumsBelow l.p l.x l.q l.y l.i l.entries.items
