use Rattle.std.proofs.Common.{◌≡◌, take}
use Rattle.std.specs.List.{All}
use Rattle.lattice_core.specs.Weights.{weighted_all}
use Rattle.weight_points.specs.steps.Rows.{systems_of, IsFresh}
use Rattle.weight_points.proofs.rows.rows_of.Given as goal

abbrev pub invariant-loop-system : goal.invariant-loop-system
invariant-loop-system l = record {
  systems : systems_of l.rows.items ≡ weighted_all (take l.system-index l.systems);
  fresh : All IsFresh l.rows.items;
}
