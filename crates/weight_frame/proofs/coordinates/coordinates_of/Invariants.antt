use Rattle.weight_frame.proofs.Finding.{AreFoundBelow}
use Rattle.weight_frame.proofs.coordinates.coordinates_of.Given as goal

abbrev pub invariant-loop-place : goal.invariant-loop-place
invariant-loop-place l = AreFoundBelow l.vectors l.x l._place l.found.items
