use Rattle.std.proofs.Common.{◌≡◌, ◌≤◌, length}
use Rattle.std.specs.List.{All}
use Rattle.face_theory.specs.Faces.{TightRelation}
use Rattle.incidence.specs.Incidences.{Tells}
use Rattle.face_poset.proofs.RowCopies.{AreFirstRows}
use Rattle.face_poset.proofs.rows.copy_rows.Given as goal

abbrev pub invariant-loop-function : goal.invariant-loop-function
invariant-loop-function l = record {
  words : l.rows.row_words ≡ l.fn.rows.row_words;
  room : l.fn.rows.room ≤ l.rows.room;
  space : length l.space ≡ length l.initial.space;
  many : length l.rows.rows ≡ l.function;
  long : All (λ row. length row ≡ l.fn.rows.row_words) l.rows.rows;
  first : (R : TightRelation) → Tells l.pool l.incidence R → AreFirstRows l.fn.rows.row_words R l.function l.rows.rows;
}
