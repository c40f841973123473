-- Sums over a range of numbers, as they are added up.
use Rattle.std.proofs.Common.{◌≡◌, ℕ, ◌+◌, ◌-◌, ◌*◌, ◌^◌, zero, suc, ◌<◌, ◌≤◌, ℤ, pos, ◌+ℤ◌, nat_abs, refl, ap, arith}
use Rattle.std.specs.List.{range_with_len}
use Rattle.std.specs.Int.RustNames.{FitsSigned}
use Rattle.std.specs.Int.{w128}
use Rattle.std.proofs.lemmas.Int.{ints, fits_signed_from_abs}
use Rattle.lattice_theory.proofs.Integers.{linear}
use Rattle.polynomial_theory.specs.Sums.{sum_over}

range_step : (i n : ℕ) (f : ℕ → ℤ) → i < n → sum_over (range_with_len i (n - i)) f ≡ f i +ℤ sum_over (range_with_len (i + 1) (n - (i + 1))) f
range_step i n f h = ap (λ (m : ℕ). sum_over (range_with_len i m) f) (one_more i n h)
  where
    one_more : (i n : ℕ) → i < n → n - i ≡ suc (n - (i + 1))
    one_more i n h = omega arith

-- at the beginning
pub sum_starts : (n : ℕ) (f : ℕ → ℤ) (z : ℤ) → z ≡ pos 0 → z +ℤ sum_over (range_with_len 0 (n - 0)) f ≡ sum_over (range_with_len 0 n) f
sum_starts n f z e =
    let m : n - 0 ≡ n = omega arith in
    let e' = ap (λ (k : ℕ). sum_over (range_with_len 0 k) f) m in
    omega (arith, linear)

-- the sum so far, and what is left
pub next_sum : (i n : ℕ) (f : ℕ → ℤ) (s p w : ℤ) → i < n → p ≡ f i → s +ℤ sum_over (range_with_len i (n - i)) f ≡ w
    → (s +ℤ p) +ℤ sum_over (range_with_len (i + 1) (n - (i + 1))) f ≡ w
next_sum i n f s p w h e k = let e' = range_step i n f h in omega (arith, linear)

-- nothing is left
pub sum_done : (i n : ℕ) (f : ℕ → ℤ) (s w : ℤ) → n ≤ i → s +ℤ sum_over (range_with_len i (n - i)) f ≡ w → s ≡ w
sum_done i n f s w h e =
    let z : n - i ≡ 0 = omega arith in
    let e' = ap (λ (m : ℕ). sum_over (range_with_len i m) f) z in
    omega (arith, linear)

-- numbers at which there is nothing: from some one on, and up to some one
pub sum_none : (m i : ℕ) (f : ℕ → ℤ) → ((x : ℕ) → i ≤ x → x < i + m → f x ≡ pos 0) → sum_over (range_with_len i m) f ≡ pos 0
sum_none zero i f none = refl
sum_none (suc m) i f none =
    let first = none i (omega arith) (omega arith) in
    let rest = sum_none m (i + 1) f (λ x l k. none x (omega arith) (omega arith)) in
    omega (arith, linear)

pub sum_from : (i n : ℕ) (f : ℕ → ℤ) → i ≤ n → ((x : ℕ) → x < i → f x ≡ pos 0) → sum_over (range_with_len i (n - i)) f ≡ sum_over (range_with_len 0 n) f
sum_from zero n f l none = let same : n - 0 ≡ n = omega arith in ap (λ (m : ℕ). sum_over (range_with_len 0 m) f) same
sum_from (suc i) n f l none =
    let before = sum_from i n f (omega arith) (λ x k. none x (omega arith)) in
    let step = range_step i n f (omega arith) in
    let this = none i (omega arith) in
    let same = ap (λ (a : ℕ). sum_over (range_with_len a (n - suc i)) f) (next i) in
    let same' = ap (λ (a : ℕ). sum_over (range_with_len (i + 1) (n - a)) f) (next i) in
    omega (arith, linear)
  where
    next : (i : ℕ) → i + 1 ≡ suc i
    next i = omega arith

-- so a sum over those numbers alone begins, and ends
pub sum_opens : (i n : ℕ) (f : ℕ → ℤ) (z : ℤ) → z ≡ pos 0 → i ≤ n → ((x : ℕ) → x < i → f x ≡ pos 0)
    → z +ℤ sum_over (range_with_len i (n - i)) f ≡ sum_over (range_with_len 0 n) f
sum_opens i n f z e l none = let s = sum_from i n f l none in omega (arith, linear)

pub sum_closes : (i n : ℕ) (f : ℕ → ℤ) (s w : ℤ) → ((x : ℕ) → i ≤ x → x < n → f x ≡ pos 0) → s +ℤ sum_over (range_with_len i (n - i)) f ≡ w → s ≡ w
sum_closes i n f s w none e = let z = sum_none (n - i) i f (λ x l m. none x l (omega arith)) in omega (arith, linear)

-- how large it is
pub next_of_line : (s p : ℤ) (i : ℕ) → nat_abs p ≤ 2 ^ 120 → nat_abs s ≤ 2 ^ 120 * i → nat_abs (s +ℤ p) ≤ 2 ^ 120 * (i + 1)
next_of_line s p i h k = omega (arith, ints)

pub next_of_lines : (s p : ℤ) (i : ℕ) → nat_abs p ≤ 2 ^ 120 * 7 → nat_abs s ≤ 2 ^ 120 * 7 * i → nat_abs (s +ℤ p) ≤ 2 ^ 120 * 7 * (i + 1)
next_of_lines s p i h k = omega (arith, ints)

pub line_fits : (s p : ℤ) (i : ℕ) → i ≤ 6 → nat_abs p ≤ 2 ^ 120 → nat_abs s ≤ 2 ^ 120 * i → FitsSigned w128 (s +ℤ p)
line_fits s p i l h k = fits_signed_from_abs w128 (s +ℤ p) (omega (arith, next_of_line s p i h k))

pub lines_fit : (s p : ℤ) (i : ℕ) → i ≤ 6 → nat_abs p ≤ 2 ^ 120 * 7 → nat_abs s ≤ 2 ^ 120 * 7 * i → FitsSigned w128 (s +ℤ p)
lines_fit s p i l h k = fits_signed_from_abs w128 (s +ℤ p) (omega (arith, next_of_lines s p i h k))
