use Rattle.std.proofs.Common.{◌≡◌, ℕ, ◌<◌, ◌≤◌, ◌+ℤ◌, ◌*ℤ◌, length}
use Rattle.lattice_theory.specs.Vector.{entry}
use Rattle.polynomial_theory.specs.Series.{product}
use Rattle.small_poly.specs.Tables.{unit_of}
use Rattle.stringy.proofs.rows.add_product.Given as goal

abbrev pub invariant-loop-k : goal.invariant-loop-k
invariant-loop-k l = record {
  long : length l.sums ≡ 9;
  done : (k : ℕ) → k < l.k → entry l.sums k ≡ entry l.initial.sums k +ℤ unit_of l.negative *ℤ product (entry l.first) (entry l.second) k;
  left : (k : ℕ) → l.k ≤ k → entry l.sums k ≡ entry l.initial.sums k;
}
