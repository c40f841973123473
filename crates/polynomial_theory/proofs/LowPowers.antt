-- The lowest power of u in a product.
use Rattle.std.proofs.Common.{◌≡◌, ℕ, zero, suc, ◌<◌, ◌≤◌, ◌⊎◌, inl, inr, true, false, ℤ, pos, negsuc, ◌-ℤ◌, ◌*ℤ◌, ◌<ℤ◌, ◌≤ℤ◌, refl, ap, ◌∙◌, arith}
use Rattle.lattice_theory.proofs.Integers.{products_out, linear, zero-*ℤ, *ℤ-zero, minus_one-*ℤ}
use Rattle.std.proofs.lemmas.Bool.{ne_eqb, cases_Bool, ltb-false, ltb-true, cond-false}
use Rattle.std.proofs.Math.Dec.{ltb}
use Rattle.lattice_theory.specs.Vector.{int_eq}
use Rattle.polynomial_theory.specs.Sums.{sum_of_splits, sign}
use Rattle.polynomial_theory.specs.Series.{Series, LaurentSeries, HasDegreeAtMost, HasNoPowerBelow, times_at_ratio, times_at_product, monomial, power_of_minus_u}

-- terms that are 0
pub splits_zero : (n : ℕ) (f : ℕ → ℕ → ℤ) → ((a b : ℕ) → f a b ≡ pos 0) → sum_of_splits n f ≡ pos 0
splits_zero zero f h = h 0 0
splits_zero (suc n) f h = let e = splits_zero n (λ a b. f (suc a) b) (λ a b. h (suc a) b) in let e' = h 0 (suc n) in omega (arith, linear)

-- (-u)^r
pub not_equal : (r : ℕ) (p : ℤ) → p <ℤ pos r → int_eq p (pos r) ≡ false
not_equal r (pos n) h = ne_eqb n r (λ (e : n ≡ r). absurd (omega (arith, linear)))
not_equal r (negsuc n) h = refl

pub monomial_starts : (c : ℤ) (r : ℕ) → HasNoPowerBelow (pos r) (monomial c r)
monomial_starts c r p zero h = cond-false (int_eq p (pos r)) c (pos 0) (not_equal r p h)
monomial_starts c r p (suc q) h = refl

pub power_starts : (r : ℕ) → HasNoPowerBelow (pos r) (power_of_minus_u r)
power_starts r = monomial_starts (sign r) r

-- A(uv) lowers no power of u
pub product_starts : (m : ℤ) (A : Series) (f : LaurentSeries) → HasNoPowerBelow m f → HasNoPowerBelow m (times_at_product A f)
product_starts m A f h p q l = splits_zero q (λ a b. A a *ℤ f (p -ℤ pos 1 *ℤ pos a) b) (λ a b. ap (λ (z : ℤ). A a *ℤ z) (h (p -ℤ pos 1 *ℤ pos a) b (lower p m a l)) ∙ *ℤ-zero (A a))
  where
    lower : (p m : ℤ) (a : ℕ) → p <ℤ m → (p -ℤ pos 1 *ℤ pos a) <ℤ m
    lower p m a l = simp products_out (omega (arith, linear))

-- two numbers
pub large_or_not : (n a : ℕ) → (n < a) ⊎ (a ≤ n)
large_or_not n a = by (cases_Bool (ltb n a))
  where
    by : (ltb n a ≡ true) ⊎ (ltb n a ≡ false) → (n < a) ⊎ (a ≤ n)
    by (inl t) = inl (ltb-true n a t)
    by (inr f) = inr (ltb-false n a f)

-- A(v/u) lowers them by its degree
pub ratio_starts : (m : ℤ) (n : ℕ) (A : Series) (f : LaurentSeries) → HasDegreeAtMost n A → HasNoPowerBelow m f → HasNoPowerBelow (m -ℤ pos n) (times_at_ratio A f)
ratio_starts m n A f d h p q l = splits_zero q (λ a b. A a *ℤ f (p -ℤ negsuc 0 *ℤ pos a) b) (λ a b. term a b (large_or_not n a))
  where
    higher : (p m : ℤ) (a n : ℕ) → p <ℤ (m -ℤ pos n) → a ≤ n → (p -ℤ negsuc 0 *ℤ pos a) <ℤ m
    higher p m a n l k = rw (minus_one-*ℤ (pos a)) (omega (arith, linear))

    term : (a b : ℕ) → (n < a) ⊎ (a ≤ n) → A a *ℤ f (p -ℤ negsuc 0 *ℤ pos a) b ≡ pos 0
    term a b (inl k) = ap (λ (z : ℤ). z *ℤ f (p -ℤ negsuc 0 *ℤ pos a) b) (d a k) ∙ zero-*ℤ (f (p -ℤ negsuc 0 *ℤ pos a) b)
    term a b (inr k) = ap (λ (z : ℤ). A a *ℤ z) (h (p -ℤ negsuc 0 *ℤ pos a) b (higher p m a n l k)) ∙ *ℤ-zero (A a)

-- a lower start
pub starts_lower : (m n : ℤ) (f : LaurentSeries) → n ≤ℤ m → HasNoPowerBelow m f → HasNoPowerBelow n f
starts_lower m n f l h p q k = h p q (omega (arith, linear))
