use Rattle.std.proofs.Common.{◌≡◌, ◌+ℤ◌, drop}
use Rattle.lattice_theory.specs.Vector.{dot}
use Rattle.lattice_core.proofs.DotSteps.{StaysWithin}
use Rattle.lattice_core.proofs.pairing.narrow_pair_of.Given as goal

abbrev pub invariant-loop-i : goal.invariant-loop-i
invariant-loop-i l = record {
  sum : l.sum +ℤ dot (drop l.i l.a) (drop l.i l.b) ≡ dot l.a l.b;
  small : StaysWithin l.a l.b l.i l.sum;
}
