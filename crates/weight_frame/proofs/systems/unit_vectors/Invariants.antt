use Rattle.std.proofs.Common.{◌≡◌, ℕ, ◌<◌, get_or, List, ℤ}
use Rattle.arrayvec.specs.ArrayVec.{array_vec_len}
use Rattle.lattice_theory.specs.Vector.{IsUnitVector}
use Rattle.weight_frame.proofs.systems.unit_vectors.Given as goal

abbrev pub invariant-loop-i : goal.invariant-loop-i
invariant-loop-i l = record {
  length : array_vec_len l.vectors ≡ l.i;
  units : (k : ℕ) (d : List ℤ) → k < l.i → IsUnitVector l.n k (get_or l.vectors.items k d);
}
