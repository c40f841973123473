use Rattle.std.proofs.Common.{◌≡◌, take, negsuc}
use Rattle.arrayvec.specs.ArrayVec.{array_vec_len}
use Rattle.lattice_theory.specs.Vector.{scaled}
use Rattle.weight_frame.proofs.vector.opposite.Given as goal

abbrev pub invariant-loop-entry : goal.invariant-loop-entry
invariant-loop-entry l = record {
  length : array_vec_len l.entries ≡ l.entry-index;
  items : l.entries.items ≡ scaled (negsuc 0) (take l.entry-index l.entry-items);
}
