use Rattle.std.proofs.Common.{◌≡◌, length}
use Rattle.lattice_core.specs.Weights.{weighted_all, columns_of}
use Rattle.weight_points.proofs.monomials.tests.gives.Given as goal

abbrev pub invariant-loop-vector : goal.invariant-loop-vector
invariant-loop-vector l = record {
  systems : l.walk.systems ≡ weighted_all l.systems;
  columns : length l.out.items ≡ columns_of (weighted_all l.systems);
}
