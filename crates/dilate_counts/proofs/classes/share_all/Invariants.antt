use Rattle.std.proofs.Common.{◌≡◌, length}
use Rattle.dilate_counts.specs.Classes.{AreShared}
use Rattle.dilate_counts.proofs.classes.share_all.Given as goal

abbrev pub invariant-loop-c : goal.invariant-loop-c
invariant-loop-c l = record {
  whole : length l.counts ≡ length l.initial.counts;
  shared : AreShared l.sets.rows l.classes.rows l.seen l.c l.initial.counts l.counts;
}
