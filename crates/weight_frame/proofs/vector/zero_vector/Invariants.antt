use Rattle.std.proofs.Common.{◌≡◌, ℕ, pos}
use Rattle.arrayvec.specs.ArrayVec.{array_vec_len}
use Rattle.lattice_theory.specs.Vector.{entry}
use Rattle.weight_frame.proofs.vector.zero_vector.Given as goal

abbrev pub invariant-loop-place : goal.invariant-loop-place
invariant-loop-place l = record {
  length : array_vec_len l.entries ≡ l._place;
  zeros : (j : ℕ) → entry l.entries.items j ≡ pos 0;
}
