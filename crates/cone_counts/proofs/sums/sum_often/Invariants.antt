use Rattle.std.proofs.Common.{◌≡◌, length}
use Rattle.cone_counts.specs.CountSteps.{IsSummed}
use Rattle.cone_counts.proofs.sums.sum_often.Given as goal

abbrev pub invariant-loop-time : goal.invariant-loop-time
invariant-loop-time l = record {
  whole : length l.counts ≡ length l.initial.counts;
  summed : IsSummed l.time l.set l.initial.counts l.counts;
}
