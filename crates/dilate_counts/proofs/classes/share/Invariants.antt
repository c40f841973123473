use Rattle.std.proofs.Common.{◌≡◌, length}
use Rattle.dilate_counts.specs.Classes.{IsShared}
use Rattle.dilate_counts.proofs.classes.share.Given as goal

abbrev pub invariant-loop-k : goal.invariant-loop-k
invariant-loop-k l = record {
  whole : length l.counts ≡ length l.initial.counts;
  shared : IsShared l.sets.rows l.words l.seen l.k l.initial.counts l.counts;
}
