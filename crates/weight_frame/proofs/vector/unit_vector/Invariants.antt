use Rattle.std.proofs.Common.{◌≡◌, ◌≢◌, ℕ, ◌<◌, pos}
use Rattle.arrayvec.specs.ArrayVec.{array_vec_len}
use Rattle.lattice_theory.specs.Vector.{entry}
use Rattle.weight_frame.proofs.vector.unit_vector.Given as goal

abbrev pub invariant-loop-j : goal.invariant-loop-j
invariant-loop-j l = record {
  length : array_vec_len l.entries ≡ l.j;
  one : l.i < l.j → entry l.entries.items l.i ≡ pos 1;
  zeros : (k : ℕ) → k ≢ l.i → entry l.entries.items k ≡ pos 0;
}
