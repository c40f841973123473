use Rattle.std.proofs.Common.{◌≡◌, length}
use Rattle.face_poset.proofs.tests.unequal.Given as goal

abbrev pub invariant-loop-place : goal.invariant-loop-place
invariant-loop-place l = length l.tight.items ≡ l.place
