-- Repeated sums of numbers: of sums of numbers, and of one number alone.
use Rattle.std.proofs.Common.{◌≡◌, ℕ, zero, suc, ◌+◌, ◌<◌, ◌≤◌, refl, ap, ap₂, ◌∙◌, arith}
use Rattle.cayley_theory.specs.Bases.{summed}
use Rattle.cayley_theory.proofs.Raised.{first_one}

-- sums of numbers that are the same that far
pub summed_same : (k : ℕ) (f g : ℕ → ℕ) (s : ℕ) → ((i : ℕ) → i ≤ s → f i ≡ g i) → summed k f s ≡ summed k g s
unfolding summed
summed_same zero f g s h = h s (omega arith)
summed_same (suc k) f g zero h = summed_same k f g zero h
summed_same (suc k) f g (suc s) h =
    ap₂ (λ (a b : ℕ). a + b) (summed_same (suc k) f g s (λ i l. h i (omega arith))) (summed_same k f g (suc s) h)

four : (a b c d : ℕ) → (a + b) + (c + d) ≡ (a + c) + (b + d)
four a b c d = omega arith

pub summed_plus : (k : ℕ) (f g : ℕ → ℕ) (s : ℕ) → summed k (λ i. f i + g i) s ≡ summed k f s + summed k g s
unfolding summed
summed_plus zero f g s = refl
summed_plus (suc k) f g zero = summed_plus k f g zero
summed_plus (suc k) f g (suc s) =
    ap₂ (λ (a b : ℕ). a + b) (summed_plus (suc k) f g s) (summed_plus k f g (suc s))
    ∙ four (summed (suc k) f s) (summed (suc k) g s) (summed k f (suc s)) (summed k g (suc s))

pub summed_nothing : (k s : ℕ) → summed k (λ i. 0) s ≡ 0
unfolding summed
summed_nothing zero s = refl
summed_nothing (suc k) zero = summed_nothing k zero
summed_nothing (suc k) (suc s) = let e = summed_nothing (suc k) s in let f = summed_nothing k (suc s) in omega (arith, e, f)

-- 1 at the place l, and 0 elsewhere
pub one_at : ℕ → ℕ → ℕ
one_at zero i = first_one i
one_at (suc l) zero = 0
one_at (suc l) (suc i) = one_at l i

later_zero : (k l : ℕ) → summed k (one_at (suc l)) zero ≡ 0
unfolding summed one_at
later_zero zero l = refl
later_zero (suc k) l = later_zero k l

later : (k l s : ℕ) → summed k (one_at (suc l)) (suc s) ≡ summed k (one_at l) s
unfolding summed one_at
later zero l s = refl
later (suc k) l zero = let e = later_zero k l in let f = later k l zero in omega (arith, e, f)
later (suc k) l (suc s) = ap₂ (λ (a b : ℕ). a + b) (later (suc k) l s) (later k l (suc s))

pub summed_below : (k l s : ℕ) → s < l → summed k (one_at l) s ≡ 0
summed_below k zero s h = absurd (omega (arith, h))
summed_below k (suc l) zero h = later_zero k l
summed_below k (suc l) (suc s) h = later k l s ∙ summed_below k l s (omega (arith, h))

at_zero : (i : ℕ) → one_at zero i ≡ first_one i
unfolding one_at
at_zero i = refl

pub summed_from : (k l d s : ℕ) → l + d ≡ s → summed k (one_at l) s ≡ summed k first_one d
summed_from k zero d s h = summed_same k (one_at zero) first_one s (λ i l. at_zero i) ∙ ap (summed k first_one) (let e : s ≡ d = omega (arith, h) in e)
summed_from k (suc l) d zero h = absurd (omega (arith, h))
summed_from k (suc l) d (suc s) h = later k l s ∙ summed_from k l d s (omega (arith, h))

pub one_at_itself : (l : ℕ) → one_at l l ≡ 1
unfolding one_at first_one
one_at_itself zero = refl
one_at_itself (suc l) = one_at_itself l

pub one_at_other : (l i : ℕ) → (i ≡ l → ⊥) → one_at l i ≡ 0
unfolding one_at first_one
one_at_other zero zero h = absurd (h refl)
one_at_other zero (suc i) h = refl
one_at_other (suc l) zero h = refl
one_at_other (suc l) (suc i) h = one_at_other l i (λ e. h (ap suc e))
