-- The laws of products, as statements.
use Rattle.std.specs.Prelude.{◌≡◌, ℕ, List, ◌==◌, ◌<◌, ◌+◌, ℤ, pos, ◌-ℤ◌, ◌*ℤ◌}
use Rattle.std.specs.List.{Contains, filter, range_with_len}
use Rattle.polynomial_theory.specs.Sums.{sum_over}
use Rattle.polynomial_theory.specs.Series.{Series, LaurentSeries, HasDegreeAtMost, HasNoPowerBelow, HasNoPowerAbove, product, times, times_at_ratio, times_at_product, monomial}

-- what multiplies may be exchanged: A(u^s v) B(u^t v) f is B(u^t v) A(u^s v) f
abbrev pub FactorsExchange : Type 0
FactorsExchange = (s t : ℤ) (A B : Series) (f : LaurentSeries) (p : ℤ) (q : ℕ) → times s A (times t B f) p q ≡ times t B (times s A f) p q

-- a product multiplies as its factors do, one after the other
abbrev pub ProductIsBothFactors : Type 0
ProductIsBothFactors = (s : ℤ) (A B : Series) (f : LaurentSeries) (p : ℤ) (q : ℕ) → times s (product A B) f p q ≡ times s A (times s B f) p q

-- the coefficient of A(v/u) B(uv) c u^r at u^p v^q is one product at most: that of the a and b with a + b = q and p + a = r + b
abbrev pub CoefficientIsOneProduct : Type 0
CoefficientIsOneProduct = (c : ℤ) (r p : ℕ) (A B : Series)
    → ((a b : ℕ) → p + a ≡ r + b → times_at_ratio A (times_at_product B (monomial c r)) (pos p) (a + b) ≡ c *ℤ (A a *ℤ B b))
    × ((q : ℕ) → ((a b : ℕ) → a + b ≡ q → p + a ≡ r + b → ⊥) → times_at_ratio A (times_at_product B (monomial c r)) (pos p) q ≡ pos 0)

-- A(uv) f has no lower power of u than f, and A(v/u) f none that is lower by more than A's degree
abbrev pub LowestPower : Type 0
LowestPower = (m : ℤ) (n : ℕ) (A : Series) (f : LaurentSeries) → HasNoPowerBelow m f
    → HasNoPowerBelow m (times_at_product A f) × (HasDegreeAtMost n A → HasNoPowerBelow (m -ℤ pos n) (times_at_ratio A f))

-- where A has no degree above k, A(uv) f has no power of u or v that is higher by more than k, and A(v/u) f none of v, and none of u that
-- is higher
abbrev pub HighestPowers : Type 0
HighestPowers = (k m n : ℕ) (A : Series) (f : LaurentSeries) → HasDegreeAtMost k A → HasNoPowerAbove m n f
    → HasNoPowerAbove (m + k) (n + k) (times_at_product A f) × HasNoPowerAbove m (n + k) (times_at_ratio A f)

-- the degree of a product is at most the sum of those of its factors
abbrev pub ProductDegree : Type 0
ProductDegree = (m n : ℕ) (A B : Series) → HasDegreeAtMost m A → HasDegreeAtMost n B → HasDegreeAtMost (m + n) (product A B)

-- a sum over a list is the sum, over the keys, of the sums of what has the key
abbrev pub SumByKey : Type 0
SumByKey = (xs : List ℕ) (key : ℕ → ℕ) (n : ℕ) (f : ℕ → ℤ) → ((x : ℕ) → Contains xs x → key x < n)
    → sum_over xs f ≡ sum_over (range_with_len 0 n) (λ r. sum_over (filter (λ x. key x == r) xs) f)
