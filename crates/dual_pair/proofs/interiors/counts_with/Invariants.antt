use Rattle.std.proofs.Common.{◌≡◌, length}
use Rattle.dual_pair.proofs.Counts.{AreCounted}
use Rattle.dual_pair.proofs.interiors.counts_with.Given as goal

abbrev pub invariant-loop-i : goal.invariant-loop-i
invariant-loop-i l = record {
  whole : length l.counts ≡ 4096;
  space : length l.space ≡ length l.initial.space;
  counted : AreCounted l.side l.table.faces l.functions l.points l.i l.counts;
}
