use Rattle.std.proofs.Common.{◌≡◌, length}
use Rattle.face_theory.specs.Faces.{TightRelation}
use Rattle.face_closing.specs.Tables.{AreApart, AreFunctionRows, AreMeetRows}
use Rattle.face_closing.proofs.closing.close.Given as goal

abbrev pub invariant-loop-function : goal.invariant-loop-function
invariant-loop-function l = record {
  words : l.table.row_words ≡ l.initial.table.row_words;
  width : length l.space ≡ length l.initial.space;
  apart : AreApart l.table.rows;
  meets : (R : TightRelation) → AreFunctionRows l.initial.table.row_words R l.rows.rows → AreMeetRows l.initial.table.row_words R 0 l.initial.table.rows
      → AreMeetRows l.initial.table.row_words R l.function l.table.rows;
}
