use Rattle.std.proofs.Common.{◌≡◌, ◌+◌, ◌*◌, ◌≤◌, length}
use Rattle.cone_counts.specs.CountSteps.{AreFirstSets}
use Rattle.cone_counts.proofs.sets.face_sets.Given as goal

abbrev pub invariant-loop-face : goal.invariant-loop-face
invariant-loop-face l = record {
  words : l.sets.row_words ≡ l.words;
  room : (length l.table.faces + 1) * l.words ≤ l.sets.room;
  first : AreFirstSets l.side l.table.faces l.words l.face l.sets.rows;
}
