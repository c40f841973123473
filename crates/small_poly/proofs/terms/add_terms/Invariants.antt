use Rattle.std.proofs.Common.{◌≡◌, ℕ, ◌<◌, ◌≤◌, ◌/◌, ◌%◌, pos, ◌+ℤ◌, length}
use Rattle.lattice_theory.specs.Vector.{entry}
use Rattle.small_poly.specs.Tables.{unit_of, term}
use Rattle.small_poly.proofs.terms.add_terms.Given as goal

abbrev pub invariant-loop-k : goal.invariant-loop-k
invariant-loop-k l = record {
  long : length l.sums ≡ 289;
  done : (j : ℕ) → j < l.k
      → entry l.sums j ≡ entry l.initial.sums j +ℤ term (unit_of l.negative) l.power (entry l.left) (entry l.right) (pos (j / 17)) (j % 17);
  left : (j : ℕ) → l.k ≤ j → entry l.sums j ≡ entry l.initial.sums j;
}
