use Rattle.std.proofs.Common.{◌≡◌, length}
use Rattle.base_counts.proofs.Added.{IsAddedTo}
use Rattle.base_counts.proofs.counts.add_point.Given as goal

abbrev pub invariant-loop-k : goal.invariant-loop-k
invariant-loop-k l = record {
  whole : length l.counts ≡ length l.initial.counts;
  added : IsAddedTo l.sets.rows l.tight l.degree l.k l.initial.counts l.counts;
}
