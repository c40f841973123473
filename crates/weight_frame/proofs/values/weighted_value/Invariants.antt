use Rattle.std.proofs.Common.{◌≡◌, ◌+◌, ◌*◌, ◌≤◌, ◌+ℤ◌, drop, map, pos, nat_abs}
use Rattle.lattice_theory.specs.Vector.{dot}
use Rattle.lattice_core.specs.Weights.{total}
use Rattle.lattice_core.specs.declared.limits.TheConstants.{MOST_FRAME_ENTRY}
use Rattle.weight_frame.proofs.values.weighted_value.Given as goal

abbrev pub invariant-loop-i : goal.invariant-loop-i
invariant-loop-i l = record {
  sum : l.sum +ℤ dot (map pos (drop l.i l.weights)) (drop l.i l.x) ≡ dot (map pos l.weights) l.x;
  bound : nat_abs l.sum + MOST_FRAME_ENTRY * total (drop l.i l.weights) ≤ MOST_FRAME_ENTRY * total l.weights;
}
