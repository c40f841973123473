use Rattle.std.proofs.Common.{◌≡◌, ◌*◌, ◌^◌, ◌≤◌, ◌+ℤ◌, drop, nat_abs}
use Rattle.lattice_theory.specs.Vector.{dot}
use Rattle.weight_frame.proofs.Leads.{column}
use Rattle.weight_frame.proofs.coordinates.combined_entry.Given as goal

abbrev pub invariant-loop-j : goal.invariant-loop-j
invariant-loop-j l = record {
  sum : l.sum +ℤ dot (drop l.j l.coefficients) (column l.i (drop l.j l.vectors)) ≡ dot l.coefficients (column l.i l.vectors);
  bound : nat_abs l.sum ≤ 2 ^ 95 * l.j;
}
