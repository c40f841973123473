use Rattle.std.proofs.Common.{◌≡◌, ◌<◌, ℕ, length}
use Rattle.lattice_theory.specs.Vector.{entry}
use Rattle.point_scan.specs.ScanSteps.{IsDilateSpan}
use Rattle.point_scan.proofs.corners.corners_of.Given as goal

abbrev pub invariant-loop-i : goal.invariant-loop-i
invariant-loop-i l = record {
  low_dimension : length l.low.items ≡ l.i;
  high_dimension : length l.high.items ≡ l.i;
  spans : (k : ℕ) → k < l.i → IsDilateSpan l.points l.dilate k (entry l.low.items k) (entry l.high.items k);
}
