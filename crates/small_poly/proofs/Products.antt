-- Sums over splits of products, as they are added up.
use Rattle.std.proofs.Common.{◌≡◌, ℕ, suc, ◌+◌, ◌-◌, ◌^◌, ◌<◌, ◌≤◌, List, ℤ, pos, negsuc, ◌+ℤ◌, ◌-ℤ◌, ◌*ℤ◌, ◌≤ℤ◌, nat_abs, ap, ◌∙◌, arith}
use Rattle.std.proofs.lemmas.Int.{ints, fits_signed_from_abs}
use Rattle.std.specs.Int.RustNames.{FitsSigned}
use Rattle.std.specs.Int.{w128}
use Rattle.lattice_theory.proofs.Integers.{linear, one-*ℤ, minus_one-*ℤ}
use Rattle.lattice_theory.specs.Vector.{entry}
use Rattle.polynomial_theory.specs.Sums.{sum_of_splits}
use Rattle.polynomial_theory.specs.Series.{LaurentSeries}
use Rattle.polynomial_theory.proofs.Splits.{sum_from, splits_by_index, from_step, from_nonnegative}

-- the terms of one coefficient
abbrev pub split_term : List ℤ → List ℤ → ℕ → ℕ → ℤ
split_term x y k a = entry x a *ℤ entry y (k - a)

-- at the beginning
pub sum_begins : (k : ℕ) (f : ℕ → ℕ → ℤ) → pos 0 +ℤ sum_from (k + 1 - 0) 0 (λ a. f a (k - a)) ≡ sum_of_splits k f
sum_begins k f =
    let e = splits_by_index k f in
    let e' : k + 1 - 0 ≡ suc k = omega arith in
    let e'' = ap (λ (m : ℕ). sum_from m 0 (λ a. f a (k - a))) e' in
    omega (arith, linear)

pub bound_begins : (k : ℕ) (f : ℕ → ℕ → ℤ) → sum_of_splits k (λ a b. pos (nat_abs (f a b))) ≤ℤ pos (2 ^ 126)
    → (pos (nat_abs (pos 0)) +ℤ sum_from (k + 1 - 0) 0 (λ a. pos (nat_abs (f a (k - a))))) ≤ℤ pos (2 ^ 126)
bound_begins k f h =
    let e = splits_by_index k (λ a b. pos (nat_abs (f a b))) in
    let e' : k + 1 - 0 ≡ suc k = omega arith in
    let e'' = ap (λ (m : ℕ). sum_from m 0 (λ a. pos (nat_abs (f a (k - a))))) e' in
    omega (arith, linear)

-- the sizes of terms, which aren't negative
abbrev pub size_of_term : (ℕ → ℤ) → ℕ → ℤ
size_of_term f a = pos (nat_abs (f a))

size_nonnegative : (f : ℕ → ℤ) (a : ℕ) → pos 0 ≤ℤ size_of_term f a
size_nonnegative f a = natural (nat_abs (f a))
  where
    natural : (n : ℕ) → pos 0 ≤ℤ pos n
    natural n = omega (arith, linear)

-- one term is small
pub term_bound : (n i : ℕ) (f : ℕ → ℤ) (s : ℤ) → i < n
    → (pos (nat_abs s) +ℤ sum_from (n - i) i (size_of_term f)) ≤ℤ pos (2 ^ 126) → nat_abs (f i) ≤ 2 ^ 126
term_bound n i f s h b =
    let e = from_step n i (size_of_term f) h in
    let l = from_nonnegative (n - (i + 1)) (i + 1) (size_of_term f) (size_nonnegative f) in
    small (nat_abs (f i)) (nat_abs s) (2 ^ 126) (sum_from (n - i) i (size_of_term f)) (sum_from (n - (i + 1)) (i + 1) (size_of_term f)) e l b
  where
    small : (t s m : ℕ) (w r : ℤ) → w ≡ pos t +ℤ r → pos 0 ≤ℤ r → (pos s +ℤ w) ≤ℤ pos m → t ≤ m
    small t s m w r e n b = omega (arith, linear)

-- the bound with one term more
pub next_bound : (n i : ℕ) (f : ℕ → ℤ) (s p : ℤ) → i < n → p ≡ f i
    → (pos (nat_abs s) +ℤ sum_from (n - i) i (size_of_term f)) ≤ℤ pos (2 ^ 126)
    → (pos (nat_abs (s +ℤ p)) +ℤ sum_from (n - (i + 1)) (i + 1) (size_of_term f)) ≤ℤ pos (2 ^ 126)
next_bound n i f s p h e b =
    let k = from_step n i (size_of_term f) h in
    let t = ap nat_abs e in
    less s p (2 ^ 126) (sum_from (n - i) i (size_of_term f)) (sum_from (n - (i + 1)) (i + 1) (size_of_term f)) (k
    ∙ ap (λ (m : ℕ). pos m +ℤ sum_from (n - (i + 1)) (i + 1) (size_of_term f)) (turned t)) b
  where
    turned : {a b : ℕ} → a ≡ b → b ≡ a
    turned {a = a} {b = b} e = omega arith

    triangle : (s p : ℤ) → nat_abs (s +ℤ p) ≤ nat_abs s + nat_abs p
    triangle s p = omega (arith, ints)

    less : (s p : ℤ) (m : ℕ) (w r : ℤ) → w ≡ pos (nat_abs p) +ℤ r → (pos (nat_abs s) +ℤ w) ≤ℤ pos m → (pos (nat_abs (s +ℤ p)) +ℤ r) ≤ℤ pos m
    less s p m w r e b = by (nat_abs (s +ℤ p)) (nat_abs s) (nat_abs p) (triangle s p) e b
      where
        by : (t a b : ℕ) → t ≤ a + b → w ≡ pos b +ℤ r → (pos a +ℤ w) ≤ℤ pos m → (pos t +ℤ r) ≤ℤ pos m
        by t a b h e l = omega (arith, linear)

-- the sum fits
pub sum_fits : (n i : ℕ) (f : ℕ → ℤ) (s p : ℤ) → i < n → p ≡ f i
    → (pos (nat_abs s) +ℤ sum_from (n - i) i (size_of_term f)) ≤ℤ pos (2 ^ 126) → FitsSigned w128 (s +ℤ p)
sum_fits n i f s p h e b =
    let k = from_nonnegative (n - (i + 1)) (i + 1) (size_of_term f) (size_nonnegative f) in
    let l = next_bound n i f s p h e b in
    fits_signed_from_abs w128 (s +ℤ p) (omega (arith, small (nat_abs (s +ℤ p)) (2 ^ 126) (sum_from (n - (i + 1)) (i + 1) (size_of_term f)) k l))
  where
    small : (t m : ℕ) (r : ℤ) → pos 0 ≤ℤ r → (pos t +ℤ r) ≤ℤ pos m → t ≤ m
    small t m r n b = omega (arith, linear)

-- the terms of one coefficient of A(u^s v) f
abbrev pub shift_term : ℤ → List ℤ → LaurentSeries → ℕ → ℕ → ℕ → ℤ
shift_term s x f p q a = entry x a *ℤ f (pos p -ℤ s *ℤ pos a) (q - a)

-- as the code makes them
pub shifted_product : (s l m n : ℤ) (x : List ℤ) (f : LaurentSeries) (p q a : ℕ) → l ≡ entry x a → m ≡ f (pos p -ℤ s *ℤ pos a) (q - a) → n ≡ l *ℤ m
    → n ≡ shift_term s x f p q a
shifted_product s l m n x f p q a el em en = en ∙ ap (λ (z : ℤ). z *ℤ m) el ∙ ap (λ (z : ℤ). entry x a *ℤ z) em

-- powers of u
pub power_raised : (p a : ℕ) → pos p -ℤ negsuc 0 *ℤ pos a ≡ pos (p + a)
power_raised p a = rw (minus_one-*ℤ (pos a)) (omega (arith, linear))

pub power_lowered : (p a : ℕ) → a ≤ p → pos p -ℤ pos 1 *ℤ pos a ≡ pos (p - a)
power_lowered p a h = rw (one-*ℤ (pos a)) (let e : (p - a) + a ≡ p = omega arith in omega (arith, linear))

-- the same size
pub small_product : (l m z : ℤ) → l *ℤ m ≡ z → nat_abs z ≤ 2 ^ 126 → nat_abs (l *ℤ m) ≤ 2 ^ 126
small_product l m z e h = rw e h
