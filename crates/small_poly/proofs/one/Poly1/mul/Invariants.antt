use Rattle.std.proofs.Common.{◌≡◌, ℕ, ◌<◌, length}
use Rattle.lattice_theory.specs.Vector.{entry}
use Rattle.polynomial_theory.specs.Series.{product}
use Rattle.small_poly.proofs.one.Poly1.mul.Given as goal

abbrev pub invariant-loop-k : goal.invariant-loop-k
invariant-loop-k l = record {
  whole : length l.coefficients ≡ 9;
  done : (j : ℕ) → j < l.k → entry l.coefficients j ≡ product (entry l.self) (entry l.other) j;
}
