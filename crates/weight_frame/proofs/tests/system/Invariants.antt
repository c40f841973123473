use Rattle.std.proofs.Common.{◌≡◌, take}
use Rattle.weight_frame.proofs.tests.system.Given as goal

abbrev pub invariant-loop-weight : goal.invariant-loop-weight
invariant-loop-weight l = l.kept.items ≡ take l.weight-index l.weights
