use Rattle.std.proofs.Common.{◌≡◌, ◌*◌, ◌≤◌, ◌+ℤ◌, drop}
use Rattle.std.specs.Prelude.{nat_abs}
use Rattle.interior_point_theory.specs.Certificates.{entries_at, integer_sum}
use Rattle.weight_certificates.specs.declared.surroundings.TheConstants.{MOST_SIZE}
use Rattle.weight_certificates.proofs.columns.column_sum.Given as goal

abbrev pub invariant-loop-p : goal.invariant-loop-p
invariant-loop-p l = record {
  sum : l.sum +ℤ integer_sum (entries_at l.j (drop l.p-index l.points)) ≡ integer_sum (entries_at l.j l.points);
  small : nat_abs l.sum ≤ l.p-index * MOST_SIZE;
}
