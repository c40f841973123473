use Rattle.std.proofs.Common.{◌≡◌, ◌*◌, ◌^◌, ◌≤◌, drop}
use Rattle.lattice_core.specs.Weights.{weighted_all, degree_product}
use Rattle.item_points.proofs.weights.degree_product.Given as goal

abbrev pub invariant-loop-system : goal.invariant-loop-system
invariant-loop-system l = record {
  value : degree_product (weighted_all l.systems) ≡ l.product * degree_product (weighted_all (drop l.system-index l.systems));
  small : l.product ≤ 32_767 ^ l.system-index;
}
