use Rattle.std.proofs.Common.{◌≡◌, length}
use Rattle.face_closing.proofs.Closings.{IsClosedBelow}
use Rattle.face_closing.proofs.closing.close_with.Given as goal

abbrev pub invariant-loop-place : goal.invariant-loop-place
invariant-loop-place l = record {
  words : l.table.row_words ≡ l.initial.table.row_words;
  width : length l.space ≡ length l.initial.space;
  closed : IsClosedBelow l.place l.initial.table.rows l.row l.table.rows;
}
