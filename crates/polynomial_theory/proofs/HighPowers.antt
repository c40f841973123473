-- The highest powers of u and v in a product.
use Rattle.std.proofs.Common.{◌≡◌, ℕ, zero, suc, ◌+◌, ◌<◌, ◌≤◌, ◌⊎◌, inl, inr, ℤ, pos, negsuc, ◌-ℤ◌, ◌*ℤ◌, ◌<ℤ◌, refl, ap, ◌∙◌, arith}
use Rattle.std.proofs.lemmas.Bool.{cond-false}
use Rattle.lattice_theory.proofs.Integers.{linear, zero-*ℤ, *ℤ-zero, one-*ℤ, minus_one-*ℤ}
use Rattle.lattice_theory.specs.Vector.{int_eq}
use Rattle.polynomial_theory.specs.Sums.{sign}
use Rattle.polynomial_theory.specs.Series.{Series, LaurentSeries, HasDegreeAtMost, HasNoPowerAbove, times_at_ratio, times_at_product, monomial, power_of_minus_u}
use Rattle.polynomial_theory.proofs.LowPowers.{large_or_not}
use Rattle.polynomial_theory.proofs.Places.{splits_none, int_differs}

-- (-u)^r
pub monomial_ends : (c : ℤ) (r : ℕ) → HasNoPowerAbove r 0 (monomial c r)
monomial_ends c r p zero (inl h) = cond-false (int_eq p (pos r)) c (pos 0) (int_differs p r (λ e. absurd (omega (arith, linear))))
monomial_ends c r p zero (inr h) = absurd (omega arith)
monomial_ends c r p (suc q) h = refl

pub power_ends : (r : ℕ) → HasNoPowerAbove r 0 (power_of_minus_u r)
power_ends r = monomial_ends (sign r) r

-- one term of A(u^s v) f, where A's degree and f's ends leave nothing
no_term : (A : Series) (f : LaurentSeries) (k m n : ℕ) (x : ℤ) (a b : ℕ) → HasDegreeAtMost k A → HasNoPowerAbove m n f → (a ≤ k
    → (pos m <ℤ x) ⊎ (n < b)) → (k < a) ⊎ (a ≤ k) → A a *ℤ f x b ≡ pos 0
no_term A f k m n x a b d h out (inl l) = ap (λ (z : ℤ). z *ℤ f x b) (d a l) ∙ zero-*ℤ (f x b)
no_term A f k m n x a b d h out (inr l) = ap (λ (z : ℤ). A a *ℤ z) (h x b (out l)) ∙ *ℤ-zero (A a)

-- A(uv) raises both ends
pub product_ends : (k m n : ℕ) (A : Series) (f : LaurentSeries) → HasDegreeAtMost k A → HasNoPowerAbove m n f → HasNoPowerAbove (m + k) (n + k) (times_at_product A f)
product_ends k m n A f d h p q out = splits_none q (λ a b. A a *ℤ f (p -ℤ pos 1 *ℤ pos a) b)
    (λ a b e. no_term A f k m n (p -ℤ pos 1 *ℤ pos a) a b d h (λ l. still p q a b e l out) (large_or_not k a))
  where
    still : (p : ℤ) (q a b : ℕ) → a + b ≡ q → a ≤ k → (pos (m + k) <ℤ p) ⊎ (n + k < q) → (pos m <ℤ (p -ℤ pos 1 *ℤ pos a)) ⊎ (n < b)
    still p q a b e l (inl g) = inl (rw (one-*ℤ (pos a)) (omega (arith, linear)))
    still p q a b e l (inr g) = inr (omega arith)

-- A(v/u) raises that of v
pub ratio_ends : (k m n : ℕ) (A : Series) (f : LaurentSeries) → HasDegreeAtMost k A → HasNoPowerAbove m n f → HasNoPowerAbove m (n + k) (times_at_ratio A f)
ratio_ends k m n A f d h p q out = splits_none q (λ a b. A a *ℤ f (p -ℤ negsuc 0 *ℤ pos a) b)
    (λ a b e. no_term A f k m n (p -ℤ negsuc 0 *ℤ pos a) a b d h (λ l. still p q a b e l out) (large_or_not k a))
  where
    still : (p : ℤ) (q a b : ℕ) → a + b ≡ q → a ≤ k → (pos m <ℤ p) ⊎ (n + k < q) → (pos m <ℤ (p -ℤ negsuc 0 *ℤ pos a)) ⊎ (n < b)
    still p q a b e l (inl g) = inl (rw (minus_one-*ℤ (pos a)) (omega (arith, linear)))
    still p q a b e l (inr g) = inr (omega arith)

-- larger ends
pub ends_larger : (m n m' n' : ℕ) (f : LaurentSeries) → m ≤ m' → n ≤ n' → HasNoPowerAbove m n f → HasNoPowerAbove m' n' f
ends_larger m n m' n' f h k e p q (inl g) = e p q (inl (omega (arith, linear)))
ends_larger m n m' n' f h k e p q (inr g) = e p q (inr (omega arith))
