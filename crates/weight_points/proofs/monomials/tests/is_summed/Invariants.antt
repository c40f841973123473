use Rattle.std.proofs.Common.{◌≡◌, ◌+◌, take}
use Rattle.lattice_core.specs.Weights.{total}
use Rattle.weight_points.proofs.monomials.tests.is_summed.Given as goal

abbrev pub invariant-loop-weight : goal.invariant-loop-weight
invariant-loop-weight l = total (take l.weight-index l.system.weights.items) + l.left ≡ l.system.degree
