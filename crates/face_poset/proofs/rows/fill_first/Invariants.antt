use Rattle.std.proofs.Common.{◌≡◌, ℕ, ◌<◌, ◌^◌, length, slice_index_or}
use Rattle.face_poset.specs.RowSteps.{HasFirst}
use Rattle.face_poset.proofs.rows.fill_first.Given as goal

abbrev pub invariant-loop-number : goal.invariant-loop-number
invariant-loop-number l = record {
  long : length l.space ≡ length l.initial.space;
  small : (i : ℕ) → slice_index_or l.space i 0 < 2 ^ 64;
  bits : HasFirst l.number l.space;
}
