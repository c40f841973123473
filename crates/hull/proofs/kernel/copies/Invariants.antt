use Rattle.std.proofs.Common.{◌≡◌, take}
use Rattle.arrayvec.specs.ArrayVec.{array_vec_len}
use Rattle.hull.proofs.kernel.copies.Given as goal

abbrev pub invariant-loop-member : goal.invariant-loop-member
invariant-loop-member l = record {
  length : array_vec_len l.members ≡ l.member-index;
  items : l.members.items ≡ take l.member-index l.kernel;
}
