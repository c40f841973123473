use Rattle.std.proofs.Common.{◌≡◌, drop}
use Rattle.lattice_core.specs.Weights.{weighted_all}
use Rattle.item_points.specs.WeightLines.{first_large_degree}
use Rattle.item_points.proofs.weights.first_large_degree.Given as goal

abbrev pub invariant-loop-system : goal.invariant-loop-system
invariant-loop-system l = first_large_degree (weighted_all l.systems) ≡ first_large_degree (weighted_all (drop l.system-index l.systems))
