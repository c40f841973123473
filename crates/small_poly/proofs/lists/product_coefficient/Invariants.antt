use Rattle.std.proofs.Common.{◌≡◌, ◌+◌, ◌-◌, ◌^◌, pos, ◌+ℤ◌, ◌≤ℤ◌, nat_abs}
use Rattle.lattice_theory.specs.Vector.{entry}
use Rattle.polynomial_theory.specs.Series.{product}
use Rattle.polynomial_theory.proofs.Splits.{sum_from}
use Rattle.small_poly.proofs.Products.{split_term, size_of_term}
use Rattle.small_poly.proofs.lists.product_coefficient.Given as goal

abbrev pub invariant-loop-i : goal.invariant-loop-i
invariant-loop-i l = record {
  sum : l.sum +ℤ sum_from (l.k + 1 - l.i) l.i (split_term l.a l.b l.k) ≡ product (entry l.a) (entry l.b) l.k;
  bound : (pos (nat_abs l.sum) +ℤ sum_from (l.k + 1 - l.i) l.i (size_of_term (split_term l.a l.b l.k))) ≤ℤ pos (2 ^ 126);
}
