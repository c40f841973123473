use Rattle.std.proofs.Common.{◌≡◌, ◌≢◌, ℕ, ◌<◌, pos}
use Rattle.arrayvec.specs.ArrayVec.{array_vec_len}
use Rattle.lattice_theory.specs.Vector.{entry}
use Rattle.hull.proofs.kernel.unit_member.Given as goal

abbrev pub invariant-loop-j : goal.invariant-loop-j
invariant-loop-j l = record {
  length : array_vec_len l.vector ≡ l.j;
  one : l.i < l.j → entry l.vector.items l.i ≡ pos 1;
  zeros : (k : ℕ) → k ≢ l.i → entry l.vector.items k ≡ pos 0;
}
