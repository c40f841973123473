use Rattle.std.proofs.Common.{◌≡◌, take}
use Rattle.duality_theory.specs.Lists.{with_ones}
use Rattle.dual_pair.proofs.pair.functions.Given as goal

abbrev pub invariant-loop-p : goal.invariant-loop-p
invariant-loop-p l = l.functions.items ≡ with_ones (take l.p-index l.points)
