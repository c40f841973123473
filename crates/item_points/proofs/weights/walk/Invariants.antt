use Rattle.std.proofs.Common.{◌≡◌, ◌-◌, length}
use Rattle.lattice_core.specs.Weights.{columns_of}
use Rattle.item_points.proofs.WeightWalks.{IsUnderWay}
use Rattle.item_points.proofs.weights.walk.Given as goal

abbrev pub invariant-loop-points : goal.invariant-loop-points
invariant-loop-points l = record {
  systems : l.monomials.systems ≡ l.frame.systems;
  given : l.monomials.given ≡ l.count;
  columns : length l.member ≡ columns_of l.frame.systems;
  way : IsUnderWay l.frame.systems l.frame.vectors l.count l.large l.points.items;
}

abbrev pub decreases-loop-points : goal.decreases-loop-points
decreases-loop-points l = 16_385 - l.count
