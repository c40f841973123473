use Rattle.std.proofs.Common.{◌≡◌, ◌+◌, ◌*◌, ◌^◌, ◌≤◌, ◌+ℤ◌, drop}
use Rattle.std.specs.Prelude.{nat_abs}
use Rattle.lattice_theory.specs.Vector.{dot}
use Rattle.lattice_theory.specs.Size.{absolute_sum}
use Rattle.lattice_core.proofs.pairing.pair_of.Given as goal

abbrev pub invariant-loop-i : goal.invariant-loop-i
invariant-loop-i l = record {
  sum : l.sum +ℤ dot (drop l.i l.a) (drop l.i l.b) ≡ dot l.a l.b;
  left : nat_abs l.sum + 2 ^ 63 * absolute_sum (drop l.i l.a) ≤ 2 ^ 63 * absolute_sum l.a;
  right : nat_abs l.sum + 2 ^ 63 * absolute_sum (drop l.i l.b) ≤ 2 ^ 63 * absolute_sum l.b;
}
