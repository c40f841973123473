use Rattle.std.proofs.Common.{◌^◌, ◌≤◌, ℤ, pos, nat_abs, ◌≡◌, arith}
use Rattle.stringy.proofs.tests.numbers_of_no_terms.Goals as goal

pub of-numbers-requires : goal.of-numbers-requires
of-numbers-requires g c = record { dim = omega arith; codim = omega arith; numbers = λ p q. none _ (c.zero.ensures (pos p) q) }
  where
    none : (z : ℤ) → z ≡ pos 0 → nat_abs z ≤ 2 ^ 120
    none z e = rw e (omega arith)
