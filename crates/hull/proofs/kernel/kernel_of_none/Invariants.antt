use Rattle.std.proofs.Common.{◌≡◌, ℕ, ◌<◌, get_or}
use Rattle.arrayvec.specs.ArrayVec.{array_vec_len}
use Rattle.elimination.specs.Elimination.{Member, IsUnitMember}
use Rattle.hull.proofs.kernel.kernel_of_none.Given as goal

abbrev pub invariant-loop-i : goal.invariant-loop-i
invariant-loop-i l = record {
  length : array_vec_len l.members ≡ l.i;
  units : (k : ℕ) (d : Member) → k < l.i → IsUnitMember l.n k (get_or l.members.items k d);
}
