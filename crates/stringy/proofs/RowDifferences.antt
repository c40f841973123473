-- Differences of a row of numbers, as they are taken.
use Rattle.std.proofs.Common.{◌≡◌, ℕ, zero, suc, ◌+◌, ◌*◌, ◌^◌, ◌<◌, ◌≤◌, ◌⊎◌, inl, inr, List, ℤ, pos, nat_abs, length, sym, ap, ◌∙◌, arith}
use Rattle.std.proofs.Math.Pow.{pow_mono}
use Rattle.lattice_theory.proofs.Integers.{linear}
use Rattle.lattice_theory.proofs.Vectors.{entry_past}
use Rattle.lattice_theory.specs.Vector.{entry}
use Rattle.polynomial_theory.specs.Series.{Series}
use Rattle.polynomial_theory.proofs.LowPowers.{large_or_not}
use Rattle.stringy_theory.specs.HStar.{differences, differences_of}
use Rattle.stringy_theory.proofs.Differences.{differences_bound}

-- the number before
abbrev pub previous : Series → ℕ → ℤ
previous l zero = pos 0
previous l (suc s) = l s

plus_one : (s : ℕ) → s + 1 ≡ suc s
plus_one s = omega arith

-- differences of numbers that begin alike
differences_begin : (l m : Series) (n : ℕ) → ((i : ℕ) → i < n → l i ≡ m i) → (i : ℕ) → i < n → differences l i ≡ differences m i
differences_begin l m n h zero k = h 0 k
differences_begin l m n h (suc i) k = let e = h i (omega arith) in let e' = h (suc i) k in omega (arith, linear)

pub all_differences_begin : (k n : ℕ) (l m : Series) → ((i : ℕ) → i < n → l i ≡ m i) → (i : ℕ) → i < n → differences_of k l i ≡ differences_of k m i
all_differences_begin zero n l m h = h
all_differences_begin (suc k) n l m h = differences_begin (differences_of k l) (differences_of k m) n (all_differences_begin k n l m h)

-- one time more
pub next_differences : (row now first : List ℤ) (t : ℕ) → ((s : ℕ) → s < length first → entry row s ≡ differences_of t (entry first) s) → length row ≡ length first
    → ((s : ℕ) → s < length row → entry now s ≡ differences (entry row) s) → (s : ℕ) → s < length first → entry now s ≡ differences_of (t + 1) (entry first) s
next_differences row now first t h e step s l = step s (omega arith)
    ∙ differences_begin (entry row) (differences_of t (entry first)) (length first) h s l
    ∙ ap (λ (k : ℕ). differences_of k (entry first) s) (sym (plus_one t))

-- after at most eight times numbers of at most 2^21 are small
power_small : (t : ℕ) → t ≤ 8 → 2 ^ t * 2 ^ 21 ≤ 2 ^ 29
power_small t h = let e = pow_mono h in omega arith

pub differences_small : (row first : List ℤ) (t : ℕ) → t ≤ 8 → ((s : ℕ) → nat_abs (entry first s) ≤ 2 ^ 21)
    → ((s : ℕ) → s < length first → entry row s ≡ differences_of t (entry first) s) → length row ≡ length first → (s : ℕ) → nat_abs (entry row s) ≤ 2 ^ 40
differences_small row first t k h e n s = by (large_or_not s (length first))
  where
    by : (s < length first) ⊎ (length first ≤ s) → nat_abs (entry row s) ≤ 2 ^ 40
    by (inl l) = rw (e s l) (let b = differences_bound t (2 ^ 21) (entry first) h s in let p = power_small t k in omega arith)
    by (inr l) = rw (entry_past row s (omega arith)) (omega arith)
