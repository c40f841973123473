use Rattle.std.proofs.Common.{◌≡◌, ◌+◌, ◌-◌, ◌*◌, ◌≤◌, ◌+ℤ◌, ◌*ℤ◌, nat_abs}
use Rattle.lattice_theory.specs.Vector.{entry}
use Rattle.polynomial_theory.specs.Series.{product, power, t_minus_1}
use Rattle.polynomial_theory.proofs.Splits.{sum_from}
use Rattle.poset_g.proofs.sums.term.Given as goal

abbrev pub invariant-loop-a : goal.invariant-loop-a
invariant-loop-a l = record {
  sum : l.sum +ℤ sum_from (l.degree + 1 - l.a) l.a (λ a. power t_minus_1 l.n a *ℤ entry l.values (l.first + (l.degree - a)))
      ≡ product (power t_minus_1 l.n) (λ b. entry l.values (l.first + b)) l.degree;
  size : nat_abs l.sum ≤ l.a * 229376;
}
