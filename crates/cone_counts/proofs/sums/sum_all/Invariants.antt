use Rattle.std.proofs.Common.{◌≡◌, length}
use Rattle.cone_counts.proofs.SetSums.{AreSummedTo}
use Rattle.cone_counts.proofs.sums.sum_all.Given as goal

abbrev pub invariant-loop-set : goal.invariant-loop-set
invariant-loop-set l = record {
  whole : length l.counts ≡ length l.initial.counts;
  summed : AreSummedTo l.masks.rows l.sets.rows l.set l.initial.counts l.counts;
}
