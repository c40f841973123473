use Rattle.std.proofs.Common.{◌≡◌, ◌≤◌, ◌^◌, max, drop}
use Rattle.lattice_theory.specs.Size.{reach}
use Rattle.lattice_core.proofs.sizes.reach_of.Given as goal

abbrev pub invariant-loop-p : goal.invariant-loop-p
invariant-loop-p l = record {
  value : max l.largest (reach (drop l.p-index l.points) l.i) ≡ reach l.points l.i;
  bound : l.largest ≤ 2 ^ 63;
}
