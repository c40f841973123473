-- One coefficient of a term is one product at most.
use Rattle.std.proofs.Common.{◌-◌, ◌/◌, ◌%◌, ◌<◌, ◌≤◌, ◌⊎◌, inl, inr, nat_abs}
use Rattle.std.proofs.Common.{◌≡◌, ◌≢◌, ℕ, zero, suc, ◌+◌, false, ◌==◌, ℤ, pos, negsuc, ◌+ℤ◌, ◌-ℤ◌, ◌*ℤ◌, refl, eq-eqb, sym, ap, ◌∙◌, arith}
use Rattle.std.proofs.lemmas.Bool.{ne_eqb, cond-true, cond-false}
use Rattle.lattice_theory.proofs.Integers.{linear, *ℤ-zero, minus_one-*ℤ, *ℤ_left_comm, *ℤ_comm, same_natural}
use Rattle.lattice_theory.specs.Vector.{int_eq}
use Rattle.polynomial_theory.specs.Sums.{sum_of_splits}
use Rattle.polynomial_theory.specs.Series.{Series, times_at_ratio, times_at_product, monomial}
use Rattle.polynomial_theory.proofs.LowPowers.{large_or_not}
use Rattle.polynomial_theory.proofs.Times.{rest, times_zero, times_suc}

-- all terms 0
pub splits_none : (n : ℕ) (f : ℕ → ℕ → ℤ) → ((a b : ℕ) → a + b ≡ n → f a b ≡ pos 0) → sum_of_splits n f ≡ pos 0
splits_none zero f h = h 0 0 refl
splits_none (suc n) f h = let e = splits_none n (λ a b. f (suc a) b) (λ a b e. h (suc a) b (omega arith)) in let e' = h 0 (suc n) (omega arith) in omega (arith, linear)

-- all but one
splits_single : (a b n : ℕ) (f : ℕ → ℕ → ℤ) → a + b ≡ n → ((c d : ℕ) → c + d ≡ n → c ≢ a → f c d ≡ pos 0) → sum_of_splits n f ≡ f a b
splits_single zero b zero f e h = ap (f 0) (omega arith)
splits_single zero b (suc n) f e h = let e' = splits_none n (λ c d. f (suc c) d) (λ c d k. h (suc c) d (omega arith) (λ z. absurd (omega arith)))
    in let e'' : f 0 (suc n) ≡ f 0 b = ap (f 0) (omega arith) in omega (arith, linear)
splits_single (suc a) b zero f e h = absurd (omega arith)
splits_single (suc a) b (suc n) f e h = let e' = splits_single a b n (λ c d. f (suc c) d) (omega arith) (λ c d k m. h (suc c) d (omega arith) (λ z. m (omega arith)))
    in let e'' = h 0 (suc n) (omega arith) (λ z. absurd (omega arith)) in omega (arith, linear)

-- c u^r
monomial_at : (c : ℤ) (r : ℕ) → monomial c r (pos r) 0 ≡ c
monomial_at c r = cond-true (r == r) c (pos 0) (eq-eqb r r refl)

pub int_differs : (a : ℤ) (r : ℕ) → a ≢ pos r → int_eq a (pos r) ≡ false
int_differs (pos n) r h = ne_eqb n r (λ e. h (ap pos e))
int_differs (negsuc n) r h = refl

monomial_off : (c : ℤ) (r : ℕ) (p : ℤ) → p ≢ pos r → monomial c r p 0 ≡ pos 0
monomial_off c r p h = cond-false (int_eq p (pos r)) c (pos 0) (int_differs p r h)

-- B(uv) c u^r
low_found : (c : ℤ) (r : ℕ) (B : Series) (p : ℤ) (q : ℕ) → p ≡ pos (r + q) → times_at_product B (monomial c r) p q ≡ c *ℤ B q
low_found c r B p zero e = times_zero (pos 1) B (monomial c r) p ∙ ap (λ (z : ℤ). B 0 *ℤ monomial c r z 0) (same r p e)
    ∙ ap (λ (z : ℤ). B 0 *ℤ z) (monomial_at c r) ∙ *ℤ_comm (B 0) c
  where
    same : (r : ℕ) (p : ℤ) → p ≡ pos (r + 0) → p ≡ pos r
    same r p e = omega (arith, linear)
low_found c r B p (suc q) e =
    let e1 = times_suc (pos 1) B (monomial c r) p q in
    let e3 = *ℤ-zero (B 0) in
    let e4 = low_found c r (rest B) (p -ℤ pos 1) q (omega (arith, linear)) in
    omega (arith, linear)

low_none : (c : ℤ) (r : ℕ) (B : Series) (p : ℤ) (q : ℕ) → p ≢ pos (r + q) → times_at_product B (monomial c r) p q ≡ pos 0
low_none c r B p zero n = times_zero (pos 1) B (monomial c r) p
    ∙ ap (λ (z : ℤ). B 0 *ℤ z) (monomial_off c r p (λ e. n (other r p e))) ∙ *ℤ-zero (B 0)
  where
    other : (r : ℕ) (p : ℤ) → p ≡ pos r → p ≡ pos (r + 0)
    other r p e = omega (arith, linear)
low_none c r B p (suc q) n =
    let e1 = times_suc (pos 1) B (monomial c r) p q in
    let e3 = *ℤ-zero (B 0) in
    let e4 = low_none c r (rest B) (p -ℤ pos 1) q (λ e. n (omega (arith, linear))) in
    omega (arith, linear)

-- the power of u at A's coefficient of t^a
place : (p a : ℕ) → pos p -ℤ negsuc 0 *ℤ pos a ≡ pos p +ℤ pos a
place p a = rw (minus_one-*ℤ (pos a)) (omega (arith, linear))

other_place : (r p a b : ℕ) → (p + a ≡ r + b → ⊥) → (pos p -ℤ negsuc 0 *ℤ pos a) ≢ pos (r + b)
other_place r p a b n e = n (from (sym (place p a) ∙ e))
  where
    from : pos p +ℤ pos a ≡ pos (r + b) → p + a ≡ r + b
    from e = same_natural (p + a) (r + b) (omega (arith, linear))

pub place_found : (c : ℤ) (r p : ℕ) (A B : Series) (a b : ℕ) → p + a ≡ r + b
    → times_at_ratio A (times_at_product B (monomial c r)) (pos p) (a + b) ≡ c *ℤ (A a *ℤ B b)
place_found c r p A B a b e =
    splits_single a b (a + b) (λ m n. A m *ℤ times_at_product B (monomial c r) (pos p -ℤ negsuc 0 *ℤ pos m) n) refl
    (λ m n k d. ap (λ (z : ℤ). A m *ℤ z) (low_none c r B (pos p -ℤ negsuc 0 *ℤ pos m) n (other_place r p m n (λ e'. d (omega arith))))
    ∙ *ℤ-zero (A m))
    ∙ ap (λ (z : ℤ). A a *ℤ z) (low_found c r B (pos p -ℤ negsuc 0 *ℤ pos a) b (place p a ∙ omega (arith, linear)))
    ∙ *ℤ_left_comm (A a) c (B b)

pub place_none : (c : ℤ) (r p : ℕ) (A B : Series) (q : ℕ) → ((a b : ℕ) → a + b ≡ q → p + a ≡ r + b → ⊥)
    → times_at_ratio A (times_at_product B (monomial c r)) (pos p) q ≡ pos 0
place_none c r p A B q h = splits_none q (λ m n. A m *ℤ times_at_product B (monomial c r) (pos p -ℤ negsuc 0 *ℤ pos m) n)
    (λ m n k. ap (λ (z : ℤ). A m *ℤ z) (low_none c r B (pos p -ℤ negsuc 0 *ℤ pos m) n (other_place r p m n (h m n k))) ∙ *ℤ-zero (A m))

-- where the one product of a coefficient stands
pub find_place : (r p q : ℕ) → ((a : ℕ) × (b : ℕ) × (a + b ≡ q) × (p + a ≡ r + b)) ⊎ ((a b : ℕ) → a + b ≡ q → p + a ≡ r + b → ⊥)
find_place r p q = first (large_or_not (r + q) p)
  where
    third : p ≤ r + q → ((r + q - p) / 2 ≤ q) → (0 < (r + q - p) % 2) ⊎ ((r + q - p) % 2 ≤ 0)
        → ((a : ℕ) × (b : ℕ) × (a + b ≡ q) × (p + a ≡ r + b)) ⊎ ((a b : ℕ) → a + b ≡ q → p + a ≡ r + b → ⊥)
    third h k (inl l) = inr (λ a b e f. absurd (omega arith))
    third h k (inr l) = inl ((r + q - p) / 2, q - (r + q - p) / 2, omega arith, omega arith)

    second : p ≤ r + q → (q < (r + q - p) / 2) ⊎ ((r + q - p) / 2 ≤ q)
        → ((a : ℕ) × (b : ℕ) × (a + b ≡ q) × (p + a ≡ r + b)) ⊎ ((a b : ℕ) → a + b ≡ q → p + a ≡ r + b → ⊥)
    second h (inl k) = inr (λ a b e f. absurd (omega arith))
    second h (inr k) = third h k (large_or_not 0 ((r + q - p) % 2))

    first : (r + q < p) ⊎ (p ≤ r + q) → ((a : ℕ) × (b : ℕ) × (a + b ≡ q) × (p + a ≡ r + b)) ⊎ ((a b : ℕ) → a + b ≡ q → p + a ≡ r + b → ⊥)
    first (inl h) = inr (λ a b e f. absurd (omega arith))
    first (inr h) = second h (large_or_not q ((r + q - p) / 2))

-- a coefficient is no larger than such a product
pub coefficient_size : (c : ℤ) (r p q : ℕ) (A B : Series) (m : ℕ) → ((a b : ℕ) → nat_abs (c *ℤ (A a *ℤ B b)) ≤ m)
    → nat_abs (times_at_ratio A (times_at_product B (monomial c r)) (pos p) q) ≤ m
coefficient_size c r p q A B m h = by (find_place r p q)
  where
    same_size : (y z : ℤ) → y ≡ z → nat_abs z ≤ m → nat_abs y ≤ m
    same_size y z e h = rw e h

    at : (a b : ℕ) → a + b ≡ q → p + a ≡ r + b → nat_abs (times_at_ratio A (times_at_product B (monomial c r)) (pos p) q) ≤ m
    at a b e f = same_size (times_at_ratio A (times_at_product B (monomial c r)) (pos p) q) (c *ℤ (A a *ℤ B b))
        (ap (λ (n : ℕ). times_at_ratio A (times_at_product B (monomial c r)) (pos p) n) (sym e) ∙ place_found c r p A B a b f) (h a b)

    by : ((a : ℕ) × (b : ℕ) × (a + b ≡ q) × (p + a ≡ r + b)) ⊎ ((a b : ℕ) → a + b ≡ q → p + a ≡ r + b → ⊥)
        → nat_abs (times_at_ratio A (times_at_product B (monomial c r)) (pos p) q) ≤ m
    by (inl w) = at w.0 w.1 w.2 w.3
    by (inr n) = same_size (times_at_ratio A (times_at_product B (monomial c r)) (pos p) q) (pos 0) (place_none c r p A B q n) (omega arith)
