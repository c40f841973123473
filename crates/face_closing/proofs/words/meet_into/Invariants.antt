use Rattle.std.proofs.Common.{ℕ, ◌≡◌, ◌<◌, length, slice_index_or, bit_and}
use Rattle.face_closing.proofs.words.meet_into.Given as goal

abbrev pub invariant-loop-i : goal.invariant-loop-i
invariant-loop-i l = record {
  width : length l.meet ≡ length l.initial.meet;
  entries : (k : ℕ) → k < l.i → slice_index_or l.meet k 0 ≡ bit_and (slice_index_or l.words k 0) (slice_index_or l.others k 0);
}
