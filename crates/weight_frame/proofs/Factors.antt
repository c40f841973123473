-- The factors in Euclid's steps: they have opposite signs, and with the numbers that they belong to they make up the second number, so that
-- they are no larger.
use Rattle.std.proofs.Common.{◌≡◌, ℕ, ◌+◌, ◌*◌, ◌<◌, ◌≤◌, ◌⊎◌, inl, inr, ℤ, pos, ◌-ℤ◌, ◌*ℤ◌, neg_ℤ, nat_abs, ap, ◌∙◌, arith, ⊎_elim, mul_comm, mul_assoc, mul-add, add-mul}
use Rattle.std.proofs.lemmas.Int.{ints}
use Rattle.lattice_theory.proofs.Integers.{*ℤ-neg}
use Rattle.weight_frame.proofs.Euclid.{small_part}

-- one of the two factors isn't negative, and the other isn't positive
abbrev pub AreOpposite : ℕ → ℕ → ℤ → ℤ → Type 0
AreOpposite first second f l = ((f ≡ pos first) × (l ≡ neg_ℤ (pos second))) ⊎ ((f ≡ neg_ℤ (pos first)) × (l ≡ pos second))

pub record AreFactors (after greater lesser : ℕ) (f l : ℤ) : Type 0 where
  pub first : ℕ
  pub second : ℕ
  pub signs : AreOpposite first second f l
  pub whole : second * greater + first * lesser ≡ after

pub factors_start : (after r : ℕ) → AreFactors after after r (pos 0) (pos 1)
factors_start after r = record { first = 0; second = 1; signs = inr (omega (arith, ints), omega (arith, ints)); whole = omega arith }

next_positive : (a b q : ℕ) (f x n : ℤ) → f ≡ pos a → x ≡ neg_ℤ (pos b) → n ≡ f -ℤ pos q *ℤ x → n ≡ pos (a + q * b)
next_positive a b q f x n e i j = j ∙ rw (e, i, *ℤ-neg) (omega (arith, ints))

next_negative : (a b q : ℕ) (f x n : ℤ) → f ≡ neg_ℤ (pos a) → x ≡ pos b → n ≡ f -ℤ pos q *ℤ x → n ≡ neg_ℤ (pos (a + q * b))
next_negative a b q f x n e i j = j ∙ rw (e, i) (omega (arith, ints))

whole_step : (a b g l q r after : ℕ) → g ≡ q * l + r → b * g + a * l ≡ after → (a + q * b) * l + b * r ≡ after
whole_step a b g l q r after e h =
    let split : b * g ≡ b * (q * l) + b * r = ap (λ (n : ℕ). b * n) e ∙ mul-add b (q * l) r in
    let sum : (a + q * b) * l ≡ a * l + (q * b) * l = add-mul a (q * b) l in
    let same : (q * b) * l ≡ b * (q * l) = ap (λ (n : ℕ). n * l) (mul_comm q b) ∙ mul_assoc b q l in
    omega arith

pub factors_step : (after g l q r : ℕ) (f x n : ℤ) → g ≡ q * l + r → n ≡ f -ℤ pos q *ℤ x → AreFactors after g l f x
    → AreFactors after l r x n
factors_step after g l q r f x n e en a = record {
  first = a.second;
  second = a.first + q * a.second;
  signs = ⊎_elim
      (λ (s : (f ≡ pos a.first) × (x ≡ neg_ℤ (pos a.second))). inr (s.1, next_positive a.first a.second q f x n s.0 s.1 en))
      (λ (s : (f ≡ neg_ℤ (pos a.first)) × (x ≡ pos a.second)). inl (s.1, next_negative a.first a.second q f x n s.0 s.1 en))
      a.signs;
  whole = whole_step a.first a.second g l q r after e a.whole;
}

-- how large they are
pub record AreSmallFactors (after q : ℕ) (f x : ℤ) : Type 0 where
  pub greater : nat_abs f ≤ after
  pub taken : q * nat_abs x ≤ after

sizes : (a b : ℕ) (f x : ℤ) → AreOpposite a b f x → (nat_abs f ≡ a) × (nat_abs x ≡ b)
sizes a b f x (inl (e, i)) = (omega (arith, ints), omega (arith, ints))
sizes a b f x (inr (e, i)) = (omega (arith, ints), omega (arith, ints))

pub factors_small : (after g l q r : ℕ) (f x : ℤ) → 0 < l → g ≡ q * l + r → AreFactors after g l f x → AreSmallFactors after q f x
factors_small after g l q r f x h e a =
    let whole = whole_step a.first a.second g l q r after e a.whole in
    let next : a.first + q * a.second ≤ after = small_part (a.first + q * a.second) l after h (omega arith) in
    let size = sizes a.first a.second f x a.signs in
    record { greater = rw size.0 (omega arith); taken = rw size.1 (omega arith) }
