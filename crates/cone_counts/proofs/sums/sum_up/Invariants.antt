use Rattle.std.proofs.Common.{◌≡◌, ◌≤◌, length}
use Rattle.cone_counts.proofs.RowSums.{IsSummedTo}
use Rattle.cone_counts.proofs.sums.sum_up.Given as goal

abbrev pub invariant-loop-degree : goal.invariant-loop-degree
invariant-loop-degree l = record {
  some : 1 ≤ l.degree;
  whole : length l.counts ≡ length l.initial.counts;
  summed : IsSummedTo l.set l.degree l.initial.counts l.counts;
}
