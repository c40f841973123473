use Rattle.std.proofs.Common.{◌≤◌}
use Rattle.point_scan.proofs.projections.is_ridge.Given as goal

abbrev pub invariant-loop-bound : goal.invariant-loop-bound
invariant-loop-bound l = l.holding ≤ 2
