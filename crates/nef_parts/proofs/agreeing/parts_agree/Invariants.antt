use Rattle.std.proofs.Common.{ℕ, ◌<◌}
use Rattle.nef_parts.specs.steps.Agreeing.{SomeAgrees}
use Rattle.nef_parts.proofs.agreeing.parts_agree.Given as goal

abbrev pub invariant-loop-i : goal.invariant-loop-i
invariant-loop-i l = (i : ℕ) → i < l.i → SomeAgrees l.mask l.begin i
