use Rattle.std.proofs.Common.{◌≡◌, ◌+◌, drop}
use Rattle.lattice_core.specs.Weights.{total}
use Rattle.weight_enum.proofs.weights.sum_of.Given as goal

abbrev pub invariant-loop-w : goal.invariant-loop-w
invariant-loop-w l = l.sum + total (drop l.w-index l.weights) ≡ total l.weights
