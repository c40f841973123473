use Rattle.std.proofs.Common.{◌≡◌, take}
use Rattle.arrayvec.specs.ArrayVec.{array_vec_len}
use Rattle.weight_frame.proofs.multiples.narrowed_entries.Given as goal

abbrev pub invariant-loop-entry : goal.invariant-loop-entry
invariant-loop-entry l = record {
  length : array_vec_len l.entries ≡ l.entry-index;
  items : l.entries.items ≡ take l.entry-index l.x;
}
