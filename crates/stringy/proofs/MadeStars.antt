-- h* as it is made: differences of the first numbers.
use Rattle.std.proofs.Common.{◌≡◌, ℕ, zero, suc, ◌^◌, ◌<◌, ◌≤◌, nat_lt, max, Bool, true, false, ◌⊎◌, inl, inr, List, ℤ, pos, ◌≤ℤ◌, nat_abs, length, sym, ap, ◌∙◌, arith}
use Rattle.std.proofs.Math.Bool.{cond}
use Rattle.std.proofs.Math.Nat.{max-le}
use Rattle.std.proofs.Math.Pow.{pow_mono}
use Rattle.std.proofs.lemmas.Bool.{cond-false, le-ltb}
use Rattle.lattice_theory.specs.Vector.{entry}
use Rattle.polynomial_theory.specs.Series.{Series}
use Rattle.polynomial_theory.proofs.LowPowers.{large_or_not}
use Rattle.stringy_theory.specs.HStar.{h_star, alternating, differences_of}
use Rattle.stringy_theory.proofs.Differences.{alternating_is_differences, counts_bound}
use Rattle.stringy.proofs.RowDifferences.{all_differences_begin}

cut : (m k : ℕ) (x : ℤ) → m ≤ k → cond (nat_lt k m) x (pos 0) ≡ pos 0
cut m k x h = cond-false (nat_lt k m) x (pos 0) (le-ltb k m h)

few : (rank k : ℕ) → rank ≤ 8 → k < max rank 1 → k < 9
few rank k h l = let m : max rank 1 ≤ 8 = max-le h (omega arith) in omega arith

-- the coefficients
pub star_value : (rank n : ℕ) (row taken cleared : List ℤ) → n ≡ max rank 1 → rank ≤ 8 → length row ≡ 9
    → ((s : ℕ) → s < length row → entry taken s ≡ differences_of rank (entry row) s)
    → ((k : ℕ) → entry cleared k ≡ cond (nat_lt k n) (entry taken k) (pos 0)) → (k : ℕ) → entry cleared k ≡ h_star rank (entry row) k
star_value rank n row taken cleared e r long h c k = by (large_or_not k (max rank 1))
  where
    first : entry cleared k ≡ cond (nat_lt k (max rank 1)) (entry taken k) (pos 0)
    first = c k ∙ ap (λ (m : ℕ). cond (nat_lt k m) (entry taken k) (pos 0)) e

    by : (k < max rank 1) ⊎ (max rank 1 ≤ k) → entry cleared k ≡ h_star rank (entry row) k
    by (inl l) = let m = few rank k r l in first ∙ ap (λ (z : ℤ). cond (nat_lt k (max rank 1)) z (pos 0))
        (h k (omega arith) ∙ sym (alternating_is_differences rank (entry row) k))
    by (inr l) = first ∙ cut (max rank 1) k (entry taken k) l ∙ sym (cut (max rank 1) k (alternating rank (entry row) k) l)

-- no coefficients from the rank on
pub star_zero : (rank : ℕ) (l : Series) (k : ℕ) → max rank 1 ≤ k → h_star rank l k ≡ pos 0
star_zero rank l k h = cut (max rank 1) k (alternating rank l k) h

-- the same of numbers that begin alike
pub star_same : (rank : ℕ) (l m : Series) → rank ≤ 8 → ((s : ℕ) → s < max rank 1 → l s ≡ m s) → (k : ℕ) → h_star rank l k ≡ h_star rank m k
star_same rank l m r h k = by (large_or_not k (max rank 1))
  where
    by : (k < max rank 1) ⊎ (max rank 1 ≤ k) → h_star rank l k ≡ h_star rank m k
    by (inl j) = ap (λ (z : ℤ). cond (nat_lt k (max rank 1)) z (pos 0))
        (alternating_is_differences rank l k ∙ all_differences_begin rank (max rank 1) l m h k j ∙ sym (alternating_is_differences rank m k))
    by (inr j) = cut (max rank 1) k (alternating rank l k) j ∙ sym (cut (max rank 1) k (alternating rank m k) j)

-- how large they are
difference_bound : (rank : ℕ) (l : Series) → rank ≤ 8 → ((s : ℕ) → pos 0 ≤ℤ l s) → ((s : ℕ) → nat_abs (l s) ≤ 2 ^ 21) → (k : ℕ)
    → nat_abs (differences_of rank l k) ≤ 2 ^ 28
difference_bound zero l r p h k = let e = h k in omega arith
difference_bound (suc rank) l r p h k =
    let e = counts_bound rank (2 ^ 21) l p h k in
    let m : 2 ^ rank ≤ 2 ^ 7 = pow_mono {i = rank} {j = 7} (omega arith) in
    omega arith

pub star_bound : (rank : ℕ) (row cleared : List ℤ) → rank ≤ 8 → ((s : ℕ) → pos 0 ≤ℤ entry row s) → ((s : ℕ) → nat_abs (entry row s) ≤ 2 ^ 21)
    → ((k : ℕ) → entry cleared k ≡ h_star rank (entry row) k) → (k : ℕ) → nat_abs (entry cleared k) ≤ 2 ^ 28
star_bound rank row cleared r p h c k = same (entry cleared k) (h_star rank (entry row) k) (2 ^ 28) (c k)
    (chosen (2 ^ 28) (alternating rank (entry row) k) size (nat_lt k (max rank 1)))
  where
    same : (a b : ℤ) (m : ℕ) → a ≡ b → nat_abs b ≤ m → nat_abs a ≤ m
    same a b m e h = rw e h

    size : nat_abs (alternating rank (entry row) k) ≤ 2 ^ 28
    size = same (alternating rank (entry row) k) (differences_of rank (entry row) k) (2 ^ 28) (alternating_is_differences rank (entry row) k)
        (difference_bound rank (entry row) r p h k)

    chosen : (t : ℕ) (x : ℤ) → nat_abs x ≤ t → (b : Bool) → nat_abs (cond b x (pos 0)) ≤ t
    chosen t x h true = h
    chosen t x h false = omega arith
