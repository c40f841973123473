-- How large the sums are that a product adds up. This project's own.
use Rattle.std.specs.Prelude.{ℕ, ◌^◌, ℤ, pos, ◌-ℤ◌, ◌*ℤ◌, nat_abs, ◌≤ℤ◌}
use Rattle.polynomial_theory.specs.Sums.{sum_of_splits}
use Rattle.polynomial_theory.specs.Series.{Series, LaurentSeries}

-- each coefficient of A B is a sum of products whose sizes sum to at most 2^126
abbrev pub HasSmallSums : Series → Series → Type 0
HasSmallSums A B = (k : ℕ) → sum_of_splits k (λ a b. pos (nat_abs (A a *ℤ B b))) ≤ℤ pos (2 ^ 126)

-- each coefficient of A(u^s v) f at powers that aren't negative is a sum of products whose sizes sum to at most 2^126
abbrev pub HasSmallTerms : ℤ → Series → LaurentSeries → Type 0
HasSmallTerms s A f = (p q : ℕ) → sum_of_splits q (λ a b. pos (nat_abs (A a *ℤ f (pos p -ℤ s *ℤ pos a) b))) ≤ℤ pos (2 ^ 126)
