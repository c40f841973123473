use Rattle.std.proofs.Common.{◌≡◌, false, map, pos}
use Rattle.lattice_core.specs.Weights.{weighted_all}
use Rattle.weight_points.specs.steps.Rows.{systems_of, AreRows}
use Rattle.weight_points.specs.Listing.{given_of}
use Rattle.weight_points.proofs.monomials.count_to.Given as goal

abbrev pub invariant-loop-count : goal.invariant-loop-count
invariant-loop-count l = record {
  systems : systems_of l.rows.items ≡ weighted_all l.systems;
  ready : AreRows l.rows.items l.entries.items;
  given : given_of (systems_of l.rows.items) (map pos l.entries.items) false ≡ l.count;
}
