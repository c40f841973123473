-- Polynomials in t, and sums of powers of u and v, each told by its coefficients. This project's own.
use Rattle.std.specs.Prelude.{◌≡◌, ◌⊎◌, ℕ, zero, suc, ◌*◌, ◌<◌, nat_lt, cond, ℤ, pos, negsuc, ◌-ℤ◌, ◌*ℤ◌, ◌<ℤ◌}
use Rattle.lattice_theory.specs.Vector.{int_eq}
use Rattle.polynomial_theory.specs.Sums.{sum_of_splits, sign}

-- A: the coefficient of t^k, for each k. A polynomial is one with no coefficients from some degree on
abbrev pub Series : Type 0
Series = ℕ → ℤ

-- f: the coefficient of u^p v^q, for each p and q; the power of u may be negative
abbrev pub LaurentSeries : Type 0
LaurentSeries = ℤ → ℕ → ℤ

-- the product of A and B in t
abbrev pub product : Series → Series → Series
product A B n = sum_of_splits n (λ a b. A a *ℤ B b)

-- A(u^s v) f(u,v)
abbrev pub times : ℤ → Series → LaurentSeries → LaurentSeries
times s A f p q = sum_of_splits q (λ a b. A a *ℤ f (p -ℤ s *ℤ pos a) b)

-- A(v/u) f(u,v)
abbrev pub times_at_ratio : Series → LaurentSeries → LaurentSeries
times_at_ratio A f = times (negsuc 0) A f

-- A(uv) f(u,v)
abbrev pub times_at_product : Series → LaurentSeries → LaurentSeries
times_at_product A f = times (pos 1) A f

-- c u^r, and (-u)^r
abbrev pub monomial : ℤ → ℕ → LaurentSeries
monomial c r p zero = cond (int_eq p (pos r)) c (pos 0)
monomial c r p (suc q) = pos 0

abbrev pub power_of_minus_u : ℕ → LaurentSeries
power_of_minus_u r = monomial (sign r) r

-- 1, t - 1 and 1 - t
abbrev pub one : Series
one zero = pos 1
one (suc k) = pos 0

abbrev pub t_minus_1 : Series
t_minus_1 zero = negsuc 0
t_minus_1 (suc zero) = pos 1
t_minus_1 (suc (suc k)) = pos 0

abbrev pub one_minus_t : Series
one_minus_t zero = pos 1
one_minus_t (suc zero) = negsuc 0
one_minus_t (suc (suc k)) = pos 0

-- A^n
abbrev pub power : Series → ℕ → Series
power A zero = one
power A (suc n) = product A (power A n)

-- the part of A of degree below d/2
abbrev pub part_below_half : ℕ → Series → Series
part_below_half d A k = cond (nat_lt (2 * k) d) (A k) (pos 0)

-- A has no degree above n
abbrev pub HasDegreeAtMost : ℕ → Series → Type 0
HasDegreeAtMost n A = (k : ℕ) → n < k → A k ≡ pos 0

-- f has no power of u below u^m
abbrev pub HasNoPowerBelow : ℤ → LaurentSeries → Type 0
HasNoPowerBelow m f = (p : ℤ) (q : ℕ) → p <ℤ m → f p q ≡ pos 0

-- f has no power of u above u^m, and none of v above v^n
abbrev pub HasNoPowerAbove : ℕ → ℕ → LaurentSeries → Type 0
HasNoPowerAbove m n f = (p : ℤ) (q : ℕ) → (pos m <ℤ p) ⊎ (n < q) → f p q ≡ pos 0
