-- The alternating sum of binomials is k differences.
use Rattle.std.proofs.Common.{◌≡◌, ℕ, zero, suc, ◌*◌, ◌^◌, ◌≤◌, nat_abs, ◌≤ℤ◌, ℤ, pos, negsuc, ◌+ℤ◌, ◌-ℤ◌, ◌*ℤ◌, neg_ℤ, refl, sym, ap, ◌∙◌, arith}
use Rattle.std.proofs.Math.Nat.{pow-succ'}
use Rattle.std.proofs.lemmas.Int.{ints}
use Rattle.lattice_theory.proofs.Integers.{products_out, linear, minus_one-*ℤ}
use Rattle.polynomial_theory.specs.Sums.{sum_of_splits, sign}
use Rattle.polynomial_theory.specs.Series.{Series}
use Rattle.stringy_theory.specs.HStar.{choose, alternating, differences, differences_of}
use Rattle.polynomial_theory.proofs.Sums.{splits_same, splits_add, splits_scaled}

-- the last split taken out
pub splits_last : (n : ℕ) (f : ℕ → ℕ → ℤ) → sum_of_splits (suc n) f ≡ sum_of_splits n (λ a b. f a (suc b)) +ℤ f (suc n) 0
splits_last zero f = refl
splits_last (suc n) f = let e = splits_last n (λ a b. f (suc a) b) in omega (arith, linear)

-- only the last split counts
splits_only_last : (n : ℕ) (f : ℕ → ℕ → ℤ) → ((a b : ℕ) → f a (suc b) ≡ pos 0) → sum_of_splits n f ≡ f n 0
splits_only_last zero f h = refl
splits_only_last (suc n) f h = let e = splits_only_last n (λ a b. f (suc a) b) (λ a b. h (suc a) b) in let e' = h 0 n in omega (arith, linear)

-- 0 things, and any number taken none at a time
choose_none : (k : ℕ) → choose k 0 ≡ 1
choose_none zero = refl
choose_none (suc k) = refl

-- one difference
one_more : (k : ℕ) (l : Series) (i : ℕ) → alternating (suc k) l i ≡ differences (alternating k l) i
one_more k l zero = ap (λ (c : ℕ). sign 0 *ℤ (pos c *ℤ l 0)) (sym (choose_none k))
one_more k l (suc i) = let e = splits_last i (λ s j. sign j *ℤ (pos (choose (suc k) j) *ℤ l s))
    in let e' = splits_last i (λ s j. sign j *ℤ (pos (choose k j) *ℤ l s))
    in let e1 = splits_same i (λ s j. sign (suc j) *ℤ (pos (choose (suc k) (suc j)) *ℤ l s))
    (λ s j. negsuc 0 *ℤ (sign j *ℤ (pos (choose k j) *ℤ l s)) +ℤ sign (suc j) *ℤ (pos (choose k (suc j)) *ℤ l s))
    (λ s j. pascal (sign j) (pos (choose k j)) (pos (choose k (suc j))) (pos (choose (suc k) (suc j))) (l s) (omega (arith, linear)))
    in let e2 = splits_add i (λ s j. negsuc 0 *ℤ (sign j *ℤ (pos (choose k j) *ℤ l s))) (λ s j. sign (suc j) *ℤ (pos (choose k (suc j)) *ℤ l s))
    in let e3 = splits_scaled (negsuc 0) i (λ s j. sign j *ℤ (pos (choose k j) *ℤ l s))
    in let e4 = ap (λ (c : ℕ). sign 0 *ℤ (pos c *ℤ l (suc i))) (choose_none k)
    in let e5 = minus_one-*ℤ (sum_of_splits i (λ s j. sign j *ℤ (pos (choose k j) *ℤ l s))) in omega (arith, linear)
  where
    pascal : (s a b c l : ℤ) → c ≡ a +ℤ b → neg_ℤ s *ℤ (c *ℤ l) ≡ negsuc 0 *ℤ (s *ℤ (a *ℤ l)) +ℤ neg_ℤ s *ℤ (b *ℤ l)
    pascal s a b c l e = rw (e, minus_one-*ℤ (s *ℤ (a *ℤ l))) (simp products_out (omega (arith, linear)))

-- the same before
differences_same : (l m : Series) → ((i : ℕ) → l i ≡ m i) → (i : ℕ) → differences l i ≡ differences m i
differences_same l m h zero = h 0
differences_same l m h (suc i) = let e = h i in let e' = h (suc i) in omega (arith, linear)

-- k differences
pub alternating_is_differences : (k : ℕ) (l : Series) (i : ℕ) → alternating k l i ≡ differences_of k l i
alternating_is_differences zero l i = splits_only_last i (λ s j. sign j *ℤ (pos (choose 0 j) *ℤ l s)) (λ s j. none (sign (suc j)) (l s)) ∙ one_one (l i)
  where
    none : (a b : ℤ) → a *ℤ (pos 0 *ℤ b) ≡ pos 0
    none a b = simp products_out

    one_one : (a : ℤ) → pos 1 *ℤ (pos 1 *ℤ a) ≡ a
    one_one a = simp products_out
alternating_is_differences (suc k) l i = one_more k l i ∙ differences_same (alternating k l) (differences_of k l) (alternating_is_differences k l) i

-- a number at most doubles
difference_bound : (a b : ℤ) (m : ℕ) → nat_abs a ≤ m → nat_abs b ≤ m → nat_abs (a -ℤ b) ≤ 2 * m
difference_bound a b m h k = omega (arith, ints)

doubled : (k m : ℕ) → 2 * (2 ^ k * m) ≡ 2 ^ suc k * m
doubled k m = rw pow-succ' (omega arith)

pub differences_bound : (k m : ℕ) (l : Series) → ((s : ℕ) → nat_abs (l s) ≤ m) → (i : ℕ) → nat_abs (differences_of k l i) ≤ 2 ^ k * m
differences_bound zero m l h i = let e = h i in omega (arith)
differences_bound (suc k) m l h zero = let e = differences_bound k m l h 0 in let e' = doubled k m in omega (arith)
differences_bound (suc k) m l h (suc i) =
    let e = difference_bound (differences_of k l (suc i)) (differences_of k l i) (2 ^ k * m) (differences_bound k m l h (suc i))
    (differences_bound k m l h i) in let e' = doubled k m in omega (arith)

-- numbers that aren't negative: one doubling less
first_difference : (a b : ℤ) (m : ℕ) → pos 0 ≤ℤ a → pos 0 ≤ℤ b → nat_abs a ≤ m → nat_abs b ≤ m → nat_abs (a -ℤ b) ≤ m
first_difference (pos a) (pos b) m p q h k = omega (arith, ints)
first_difference (pos a) (negsuc b) m p q h k = absurd (omega (arith, linear))
first_difference (negsuc a) b m p q h k = absurd (omega (arith, linear))

pub counts_bound : (k m : ℕ) (l : Series) → ((s : ℕ) → pos 0 ≤ℤ l s) → ((s : ℕ) → nat_abs (l s) ≤ m) → (i : ℕ) → nat_abs (differences_of (suc k) l i) ≤ 2 ^ k * m
counts_bound zero m l p h zero = let e = h 0 in omega arith
counts_bound zero m l p h (suc i) = let e = first_difference (l (suc i)) (l i) m (p (suc i)) (p i) (h (suc i)) (h i) in omega arith
counts_bound (suc k) m l p h zero = let e = counts_bound k m l p h 0 in let e' = doubled k m in omega arith
counts_bound (suc k) m l p h (suc i) =
    let e = difference_bound (differences_of (suc k) l (suc i)) (differences_of (suc k) l i) (2 ^ k * m) (counts_bound k m l p h (suc i))
    (counts_bound k m l p h i) in let e' = doubled k m in omega arith
