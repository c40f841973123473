use Rattle.std.proofs.Common.{◌≡◌, ◌+◌, ◌-◌, ◌*◌, ◌^◌, ◌≤◌, ◌+ℤ◌, nat_abs}
use Rattle.lattice_theory.specs.Vector.{entry}
use Rattle.polynomial_theory.specs.Series.{product}
use Rattle.polynomial_theory.proofs.Splits.{sum_from}
use Rattle.stringy.proofs.Coefficients.{split_term}
use Rattle.stringy.proofs.rows.product_at.Given as goal

abbrev pub invariant-loop-b : goal.invariant-loop-b
invariant-loop-b l = record {
  sum : l.sum +ℤ sum_from (l.k + 1 - l.b) l.b (split_term (entry l.first) (entry l.second) l.k) ≡ product (entry l.first) (entry l.second) l.k;
  bound : nat_abs l.sum ≤ 2 ^ 40 * l.b;
}
