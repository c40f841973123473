-- Terms that fit since their degrees do.
use Rattle.std.proofs.Common.{ℕ, ◌+◌, ◌≤◌, pos, ◌-ℤ◌, ◌≤ℤ◌, arith}
use Rattle.lattice_theory.proofs.Integers.{linear}
use Rattle.polynomial_theory.specs.Series.{times_at_product, monomial}
use Rattle.polynomial_theory.proofs.LowPowers.{monomial_starts, product_starts, ratio_starts, starts_lower}
use Rattle.polynomial_theory.proofs.HighPowers.{monomial_ends, product_ends, ratio_ends, ends_larger}
use Rattle.small_poly.specs.Tables.{term}
use Rattle.small_poly.specs.Laws.{TermsFit}

pub terms_fit_lem : TermsFit
terms_fit_lem c r m n A B d e low high both = (
  starts_lower (pos r -ℤ pos m) (pos 0) (term c r A B) (from r m low)
      (ratio_starts (pos r) m A (times_at_product B (monomial c r)) d (product_starts (pos r) B (monomial c r) (monomial_starts c r))),
  ends_larger (r + n) ((0 + n) + m) 16 16 (term c r A B) high (omega arith)
      (ratio_ends m (r + n) (0 + n) A (times_at_product B (monomial c r)) d (product_ends n r 0 B (monomial c r) e (monomial_ends c r))),
)
  where
    from : (r m : ℕ) → m ≤ r → pos 0 ≤ℤ (pos r -ℤ pos m)
    from r m h = omega (arith, linear)
