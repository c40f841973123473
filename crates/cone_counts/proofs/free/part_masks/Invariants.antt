use Rattle.std.proofs.Common.{◌≡◌, ◌*◌, ◌≤◌, length}
use Rattle.cone_counts.specs.CountSteps.{AreMasks}
use Rattle.cone_counts.proofs.free.part_masks.Given as goal

abbrev pub invariant-loop-part : goal.invariant-loop-part
invariant-loop-part l = record {
  words : l.masks.row_words ≡ l.words;
  room : l.parts * l.words ≤ l.masks.room;
  space : length l.space.items ≡ l.words;
  masks : AreMasks l.vectors l.words l.part l.masks.rows;
}
