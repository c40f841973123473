-- One coefficient of a product, as it is added up.
use Rattle.std.proofs.Common.{◌≡◌, ℕ, zero, suc, ◌+◌, ◌-◌, ◌*◌, ◌^◌, ◌<◌, ◌≤◌, ℤ, pos, ◌+ℤ◌, ◌*ℤ◌, nat_abs, min, ◌⊎◌, inl, inr, refl, ap, ◌∙◌, arith}
use Rattle.std.proofs.Math.Nat.{mul-le-mul, le-min}
use Rattle.std.proofs.lemmas.Int.{ints, unsigned_abs-mul, fits_signed_from_abs}
use Rattle.std.specs.Int.RustNames.{FitsSigned}
use Rattle.std.specs.Int.{w64}
use Rattle.lattice_theory.proofs.Integers.{linear, *ℤ-zero}
use Rattle.polynomial_theory.specs.Sums.{sum_of_splits}
use Rattle.polynomial_theory.specs.Series.{Series, product}
use Rattle.polynomial_theory.proofs.Splits.{sum_from, splits_by_index, so_far}
use Rattle.polynomial_theory.proofs.LowPowers.{large_or_not}
use Rattle.stringy_theory.proofs.Differences.{splits_last}

-- the term with a coefficient of the second factor
abbrev pub split_term : Series → Series → ℕ → ℕ → ℤ
split_term A B k b = A (k - b) *ℤ B b

-- both parts of a split change places
splits_turned : (n : ℕ) (f : ℕ → ℕ → ℤ) → sum_of_splits n f ≡ sum_of_splits n (λ a b. f b a)
splits_turned zero f = refl
splits_turned (suc n) f =
    let e = splits_turned n (λ a b. f (suc a) b) in
    let e' = splits_last n (λ a b. f b a) in
    omega (arith, linear)

-- at the beginning
pub sum_begins : (A B : Series) (k : ℕ) → pos 0 +ℤ sum_from (k + 1 - 0) 0 (split_term A B k) ≡ product A B k
sum_begins A B k =
    let e = splits_turned k (λ a b. A a *ℤ B b) in
    let e' = splits_by_index k (λ b a. A a *ℤ B b) in
    let n : k + 1 - 0 ≡ suc k = omega arith in
    let e'' = ap (λ (m : ℕ). sum_from m 0 (split_term A B k)) n in
    omega (arith, linear)

-- at the end, where the second factor has no further coefficients
pub sum_ends : (A B : Series) (k i : ℕ) (s : ℤ) → ((b : ℕ) → i ≤ b → b < k + 1 → B b ≡ pos 0) → s +ℤ sum_from (k + 1 - i) i (split_term A B k) ≡ product A B k
    → s ≡ product A B k
sum_ends A B k i s z e =
    let n = left (k + 1 - i) i (λ a l m. z a l (omega arith)) in
    omega (arith, linear)
  where
    left : (n i : ℕ) → ((a : ℕ) → i ≤ a → a < i + n → B a ≡ pos 0) → sum_from n i (split_term A B k) ≡ pos 0
    left zero i h = refl
    left (suc n) i h = let e = left n (suc i) (λ a l m. h a (omega arith) (omega arith)) in let e' = ap (λ (x : ℤ). A (k - i) *ℤ x) (h i
        (omega arith) (omega arith)) ∙ *ℤ-zero (A (k - i)) in omega (arith, linear)

-- one term more
pub term_so_far : (A B : Series) (k i : ℕ) (s p : ℤ) → i < k + 1 → p ≡ A (k - i) *ℤ B i → s +ℤ sum_from (k + 1 - i) i (split_term A B k) ≡ product A B k
    → (s +ℤ p) +ℤ sum_from (k + 1 - (i + 1)) (i + 1) (split_term A B k) ≡ product A B k
term_so_far A B k i s p h e w = so_far (k + 1) i (split_term A B k) s p (product A B k) h e w

pub bound_so_far : (s p : ℤ) (i : ℕ) → nat_abs p ≤ 2 ^ 40 → nat_abs s ≤ 2 ^ 40 * i → nat_abs (s +ℤ p) ≤ 2 ^ 40 * (i + 1)
bound_so_far s p i h k = omega (arith, ints)

pub sum_fits : (s p : ℤ) (i : ℕ) → i < 4 → nat_abs p ≤ 2 ^ 40 → nat_abs s ≤ 2 ^ 40 * i → FitsSigned w64 (s +ℤ p)
sum_fits s p i l h k = fits_signed_from_abs w64 (s +ℤ p) (omega (arith, bound_so_far s p i h k))

-- past the smaller of two numbers, and below the first, is past the second
pub past_min : (b n m : ℕ) → min n m ≤ b → b < n → m ≤ b
past_min b n m h l = by (large_or_not b m)
  where
    by : (b < m) ⊎ (m ≤ b) → m ≤ b
    by (inl k) = let e : b + 1 ≤ min n m = le-min (omega arith) (omega arith) in absurd (omega arith)
    by (inr k) = k

-- a product of two coefficients
pub factors_small : (a b : ℤ) → nat_abs a ≤ 2 ^ 28 → nat_abs b ≤ 2 ^ 12 → nat_abs (a *ℤ b) ≤ 2 ^ 40
factors_small a b h k = rw unsigned_abs-mul (let e = mul-le-mul h k in omega arith)
