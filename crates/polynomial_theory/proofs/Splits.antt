-- Sums over splits, one term after the other, as a loop adds them up.
use Rattle.std.proofs.Common.{◌≡◌, ℕ, zero, suc, ◌+◌, ◌-◌, ◌<◌, ◌≤◌, ℤ, pos, ◌+ℤ◌, ◌≤ℤ◌, refl, ap, ◌∙◌, arith}
use Rattle.lattice_theory.proofs.Integers.{linear}
use Rattle.polynomial_theory.specs.Sums.{sum_of_splits}

-- n terms from i on
abbrev pub sum_from : ℕ → ℕ → (ℕ → ℤ) → ℤ
sum_from zero i f = pos 0
sum_from (suc n) i f = f i +ℤ sum_from n (suc i) f

-- a shift of the place
from_shift : (n i : ℕ) (f g : ℕ → ℤ) → ((a : ℕ) → i ≤ a → a < i + n → f (suc a) ≡ g a) → sum_from n (suc i) f ≡ sum_from n i g
from_shift zero i f g h = refl
from_shift (suc n) i f g h =
    let e = from_shift n (suc i) f g (λ a k l. h a (omega arith) (omega arith)) in
    let e' = h i (omega arith) (omega arith) in
    omega (arith, linear)

-- the sum over splits, by the first part
pub splits_by_index : (k : ℕ) (f : ℕ → ℕ → ℤ) → sum_of_splits k f ≡ sum_from (suc k) 0 (λ a. f a (k - a))
splits_by_index zero f = omega (arith, linear)
splits_by_index (suc k) f =
    let e = splits_by_index k (λ a b. f (suc a) b) in
    let e' = from_shift (suc k) 0 (λ a. f a (suc k - a)) (λ a. f (suc a) (k - a)) (λ a h l. ap (f (suc a)) (omega arith)) in
    let e'' : f 0 (suc k - 0) ≡ f 0 (suc k) = ap (f 0) (omega arith) in
    omega (arith, linear)

-- one term, and the rest
pub from_step : (n i : ℕ) (f : ℕ → ℤ) → i < n → sum_from (n - i) i f ≡ f i +ℤ sum_from (n - (i + 1)) (i + 1) f
from_step n i f h =
    let e : n - i ≡ suc (n - (i + 1)) = omega arith in
    let e' : suc i ≡ i + 1 = omega arith in
    ap (λ (m : ℕ). sum_from m i f) e ∙ ap (λ (j : ℕ). f i +ℤ sum_from (n - (i + 1)) j f) e'

-- the sum so far, and what is left
pub so_far : (n i : ℕ) (f : ℕ → ℤ) (s p w : ℤ) → i < n → p ≡ f i → s +ℤ sum_from (n - i) i f ≡ w
    → (s +ℤ p) +ℤ sum_from (n - (i + 1)) (i + 1) f ≡ w
so_far n i f s p w h e k = let e' = from_step n i f h in omega (arith, linear)

-- nothing is left
pub at_end : (n i : ℕ) (f : ℕ → ℤ) (s w : ℤ) → n ≤ i → s +ℤ sum_from (n - i) i f ≡ w → s ≡ w
at_end n i f s w h e =
    let e' : n - i ≡ 0 = omega arith in
    let e'' = ap (λ (m : ℕ). sum_from m i f) e' in
    omega (arith, linear)

-- terms that aren't negative have such a sum
pub from_nonnegative : (n i : ℕ) (f : ℕ → ℤ) → ((a : ℕ) → pos 0 ≤ℤ f a) → pos 0 ≤ℤ sum_from n i f
from_nonnegative zero i f h = omega (arith, linear)
from_nonnegative (suc n) i f h = let e = from_nonnegative n (suc i) f h in let e' = h i in omega (arith, linear)
