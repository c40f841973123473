use Rattle.std.proofs.Common.{◌≡◌, take}
use Rattle.arrayvec.specs.ArrayVec.{array_vec_len}
use Rattle.hull.specs.steps.Differences.{difference}
use Rattle.hull.proofs.differences.point_difference.Given as goal

abbrev pub invariant-loop-i : goal.invariant-loop-i
invariant-loop-i l = record {
  length : array_vec_len l.entries ≡ l.i;
  items : l.entries.items ≡ take l.i (difference l.p l.q);
}
