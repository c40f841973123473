use Rattle.std.proofs.Common.{◌≡◌, length}
use Rattle.dilate_counts.specs.Classes.{IsSummed}
use Rattle.dilate_counts.proofs.classes.add_degrees.Given as goal

abbrev pub invariant-loop-l : goal.invariant-loop-l
invariant-loop-l l = record {
  whole : length l.counts ≡ length l.initial.counts;
  summed : IsSummed l.at l.seen l.l l.initial.counts l.counts;
}
