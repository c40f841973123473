use Rattle.std.proofs.Common.{ℕ, ◌≡◌, ◌<◌, length, slice_index_or}
use Rattle.face_poset.proofs.rows.fit.Given as goal

abbrev pub invariant-loop-i : goal.invariant-loop-i
invariant-loop-i l = record {
  long : length l.space ≡ length l.initial.space;
  fitted : (k : ℕ) → k < l.i → slice_index_or l.space k 0 ≡ slice_index_or l.words k 0;
}
