use Rattle.std.proofs.Common.{◌≤◌, take, ◌≤ℤ◌, nat_abs}
use Rattle.std.specs.List.{All}
use Rattle.lattice_theory.specs.Vector.{entry}
use Rattle.lattice_theory.specs.Size.{reach}
use Rattle.point_scan.proofs.spans.span_of.Given as goal

abbrev pub invariant-loop-point : goal.invariant-loop-point
invariant-loop-point l = record {
  within : All (λ p. (l.low ≤ℤ entry p l.i) × (entry p l.i ≤ℤ l.high)) (take l.point-index l.points);
  ordered : l.low ≤ℤ l.high;
  small_low : nat_abs l.low ≤ reach l.points l.i;
  small_high : nat_abs l.high ≤ reach l.points l.i;
}
