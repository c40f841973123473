use Rattle.std.proofs.Common.{◌≡◌, ℕ, ◌<◌, ◌≤◌, ◌/◌, ◌%◌, pos, ◌+ℤ◌, ◌*ℤ◌, length}
use Rattle.lattice_theory.specs.Vector.{entry}
use Rattle.small_poly.specs.Tables.{laurent_of, unit_of, times_both}
use Rattle.small_poly.proofs.factors.add_products.Given as goal

abbrev pub invariant-loop-k : goal.invariant-loop-k
invariant-loop-k l = record {
  long : length l.sums ≡ 289;
  done : (j : ℕ) → j < l.k
      → entry l.sums j ≡ entry l.initial.sums j +ℤ unit_of l.negative *ℤ times_both (entry l.left) (entry l.right) (laurent_of l.inner) (pos (j / 17)) (j % 17);
  left : (j : ℕ) → l.k ≤ j → entry l.sums j ≡ entry l.initial.sums j;
}
