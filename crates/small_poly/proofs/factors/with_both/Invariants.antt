use Rattle.std.proofs.Common.{◌≡◌, ◌+◌, ◌-◌, ◌^◌, pos, negsuc, ◌+ℤ◌, ◌≤ℤ◌, nat_abs}
use Rattle.lattice_theory.specs.Vector.{entry}
use Rattle.polynomial_theory.specs.Series.{times_at_product}
use Rattle.polynomial_theory.proofs.Splits.{sum_from}
use Rattle.small_poly.specs.Tables.{laurent_of, times_both}
use Rattle.small_poly.proofs.Products.{shift_term, size_of_term}
use Rattle.small_poly.proofs.factors.with_both.Given as goal

abbrev pub invariant-loop-a : goal.invariant-loop-a
invariant-loop-a l = record {
  sum : l.sum +ℤ sum_from (l.q + 1 - l.a) l.a (shift_term (negsuc 0) l.left (times_at_product (entry l.right) (laurent_of l.inner)) l.p l.q)
      ≡ times_both (entry l.left) (entry l.right) (laurent_of l.inner) (pos l.p) l.q;
  bound : (pos (nat_abs l.sum) +ℤ sum_from (l.q + 1 - l.a) l.a (size_of_term
      (shift_term (negsuc 0) l.left (times_at_product (entry l.right) (laurent_of l.inner)) l.p l.q))) ≤ℤ pos (2 ^ 126);
}
