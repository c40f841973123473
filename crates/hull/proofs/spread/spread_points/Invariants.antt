use Rattle.std.proofs.Common.{◌<◌, length, All, Contains}
use Rattle.hull.proofs.spread.spread_points.Given as goal

abbrev pub invariant-loop-turn : goal.invariant-loop-turn
invariant-loop-turn l = record {
  some : 0 < length l.spread.items;
  among : All (Contains l.points) l.spread.items;
}
