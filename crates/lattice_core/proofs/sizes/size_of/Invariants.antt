use Rattle.std.proofs.Common.{◌≡◌, ◌≤◌, ◌*◌, ◌^◌}
use Rattle.lattice_theory.specs.Size.{size}
use Rattle.lattice_core.proofs.sizes.size_of.Given as goal

abbrev pub invariant-loop-i : goal.invariant-loop-i
invariant-loop-i l = record {
  value : l.sum ≡ size l.i l.points;
  bound : l.sum ≤ 2 ^ 63 * l.i;
}
