-- Sums that are small since each of their terms is.
use Rattle.std.proofs.Common.{◌≡◌, ℕ, zero, suc, ◌+◌, ◌-◌, ◌*◌, ◌^◌, ◌<◌, ◌≤◌, ℤ, pos, ◌-ℤ◌, ◌*ℤ◌, ◌≤ℤ◌, nat_abs, refl, ap, ◌∙◌, arith}
use Rattle.lattice_theory.proofs.Integers.{linear, zero-*ℤ}
use Rattle.polynomial_theory.proofs.Splits.{sum_from, splits_by_index}
use Rattle.small_poly.specs.Laws.{SumsAreSmall, TermsAreSmall}

-- terms that are 0
from_none : (n i : ℕ) (g : ℕ → ℤ) → ((a : ℕ) → i ≤ a → g a ≡ pos 0) → sum_from n i g ≡ pos 0
from_none zero i g h = refl
from_none (suc n) i g h = let e = from_none n (suc i) g (λ a l. h a (omega arith)) in let e' = h i (omega arith) in omega (arith, linear)

-- at most nine terms that aren't
few_terms : (n i left : ℕ) (g : ℕ → ℤ) → i + left ≡ 9 → ((a : ℕ) → g a ≤ℤ pos (2 ^ 122)) → ((a : ℕ) → 8 < a → g a ≡ pos 0)
    → sum_from n i g ≤ℤ pos (2 ^ 122 * left)
few_terms zero i left g e h z = omega (arith, linear)
few_terms (suc n) i zero g e h z = let s = from_none (suc n) i g (λ a l. z a (omega arith)) in omega (arith, linear)
few_terms (suc n) i (suc left) g e h z = let b = few_terms n (suc i) left g (omega arith) h z in let k = h i in omega (arith, linear)

pub small_sums_lem : SumsAreSmall
small_sums_lem A B d h k =
    let e = splits_by_index k (λ a b. pos (nat_abs (A a *ℤ B b))) in
    let b = few_terms (suc k) 0 9 (λ a. pos (nat_abs (A a *ℤ B (k - a)))) refl (λ a. natural (nat_abs (A a *ℤ B (k - a))) (2 ^ 122) (h a (k - a)))
    (λ a l. ap (λ (z : ℤ). pos (nat_abs (z *ℤ B (k - a)))) (d a l) ∙ ap (λ (z : ℤ). pos (nat_abs z)) (zero-*ℤ (B (k - a)))) in
    omega (arith, linear)
  where
    natural : (n m : ℕ) → n ≤ m → pos n ≤ℤ pos m
    natural n m h = omega (arith, linear)

pub small_terms_lem : TermsAreSmall
small_terms_lem s A f d h p q =
    let e = splits_by_index q (λ a b. pos (nat_abs (A a *ℤ f (pos p -ℤ s *ℤ pos a) b))) in
    let b = few_terms (suc q) 0 9 (λ a. pos (nat_abs (A a *ℤ f (pos p -ℤ s *ℤ pos a) (q - a)))) refl
    (λ a. natural (nat_abs (A a *ℤ f (pos p -ℤ s *ℤ pos a) (q - a))) (2 ^ 122) (h a (pos p -ℤ s *ℤ pos a) (q - a)))
    (λ a l. ap (λ (z : ℤ). pos (nat_abs (z *ℤ f (pos p -ℤ s *ℤ pos a) (q - a)))) (d a l) ∙ ap (λ (z : ℤ). pos (nat_abs z)) (zero-*ℤ (f (pos p -ℤ s *ℤ pos a) (q - a)))) in
    omega (arith, linear)
  where
    natural : (n m : ℕ) → n ≤ m → pos n ≤ℤ pos m
    natural n m h = omega (arith, linear)
