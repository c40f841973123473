-- The bounds as numbers, for each number of coordinates.
use Rattle.std.proofs.Common.{ℕ, zero, suc, ◌+◌, ◌*◌, ◌^◌, ◌<◌, ◌≤◌, arith}
use Rattle.std.proofs.lemmas.Nat.{mul-le}
use Rattle.std.proofs.Math.Nat.{mul-le-mul_left, pow-le-pow_left, pow-le-pow_right, pow-zero, pow-succ'}
use Rattle.normal_bounds.specs.declared.limits.TheConstants.{MOST_SIZE_1, MOST_SIZE_2, MOST_SIZE_3, MOST_SIZE_4, MOST_SIZE_5, MOST_SIZE_6}
use Rattle.normal_bounds.specs.InNumbers.{ValuesFit}
use Rattle.normal_bounds.specs.Laws.{EntriesFit, StepFits, CombineFits}

-- powers grow with both numbers
power_within : (S L j k : ℕ) → S ≤ L → 0 < L → j ≤ k → (2 * S) ^ j ≤ (2 * L) ^ k
power_within S L j k h l e = let a : (2 * S) ^ j ≤ (2 * L) ^ j = pow-le-pow_left (mul-le-mul_left 2 h) j in
    let b : (2 * L) ^ j ≤ (2 * L) ^ k = pow-le-pow_right (above_zero L l) e in omega arith
  where
    above_zero : (L : ℕ) → 0 < L → zero < 2 * L
    above_zero L l = omega arith

-- at size 0 they are at most 1
power_of_zero : (S j : ℕ) → S ≤ 0 → (2 * S) ^ j ≤ 1
power_of_zero S zero h = let e = pow-zero (2 * S) in omega arith
power_of_zero S (suc j) h = let e = pow-succ' (2 * S) j in let f : 2 * S ≤ 1 = omega arith in
    let g = mul-le (2 * S) ((2 * S) ^ j) 1 1 f (power_of_zero S j h) in omega arith

-- one power, where that of the largest size fits
power_at : (limit L k S j : ℕ) → S ≤ L → 0 < L → j ≤ k → (2 * L) ^ k < limit → (2 * S) ^ j < limit
power_at limit L k S j h l e b = let a = power_within S L j k h l e in omega arith

-- two products
products_at : (L j' k' S j k : ℕ) → S ≤ L → 0 < L → j ≤ j' → k ≤ k' → 2 * ((2 * L) ^ j' * (2 * L) ^ k') < 2 ^ 127
    → 2 * ((2 * S) ^ j * (2 * S) ^ k) < 2 ^ 127
products_at L j' k' S j k h l e f b = let a = mul-le ((2 * S) ^ j) ((2 * S) ^ k) ((2 * L) ^ j') ((2 * L) ^ k') (power_within S L j j' h l e)
    (power_within S L k k' h l f) in omega arith

-- two products at size 0
products_of_zero : (S j k : ℕ) → S ≤ 0 → 2 * ((2 * S) ^ j * (2 * S) ^ k) < 2 ^ 127
products_of_zero S j k h = let a = mul-le ((2 * S) ^ j) ((2 * S) ^ k) 1 1 (power_of_zero S j h) (power_of_zero S k h) in omega arith

-- the law on entries
pub entries_fit_lem : EntriesFit
entries_fit_lem zero j S e h = absurd (omega arith)
entries_fit_lem (suc zero) j S e h = power_at (2 ^ 63) MOST_SIZE_1 0 S j h (omega arith) (omega arith) (omega arith)
entries_fit_lem (suc (suc zero)) j S e h = power_at (2 ^ 63) MOST_SIZE_2 1 S j h (omega arith) (omega arith) (omega arith)
entries_fit_lem (suc (suc (suc zero))) j S e h = power_at (2 ^ 63) MOST_SIZE_3 2 S j h (omega arith) (omega arith) (omega arith)
entries_fit_lem (suc (suc (suc (suc zero)))) j S e h = power_at (2 ^ 63) MOST_SIZE_4 3 S j h (omega arith) (omega arith) (omega arith)
entries_fit_lem (suc (suc (suc (suc (suc zero))))) j S e h = power_at (2 ^ 63) MOST_SIZE_5 4 S j h (omega arith) (omega arith) (omega arith)
entries_fit_lem (suc (suc (suc (suc (suc (suc zero)))))) j S e h = power_at (2 ^ 63) MOST_SIZE_6 5 S j h (omega arith) (omega arith) (omega arith)
entries_fit_lem (suc (suc (suc (suc (suc (suc (suc n))))))) j S e h = let a = power_of_zero S j h in omega arith

-- the law on values
pub values_fit_lem : ValuesFit
values_fit_lem zero j S e h = let a = power_of_zero S j h in omega arith
values_fit_lem (suc zero) j S e h = power_at (2 ^ 76) MOST_SIZE_1 1 S j h (omega arith) e (omega arith)
values_fit_lem (suc (suc zero)) j S e h = power_at (2 ^ 76) MOST_SIZE_2 2 S j h (omega arith) e (omega arith)
values_fit_lem (suc (suc (suc zero))) j S e h = power_at (2 ^ 76) MOST_SIZE_3 3 S j h (omega arith) e (omega arith)
values_fit_lem (suc (suc (suc (suc zero)))) j S e h = power_at (2 ^ 76) MOST_SIZE_4 4 S j h (omega arith) e (omega arith)
values_fit_lem (suc (suc (suc (suc (suc zero))))) j S e h = power_at (2 ^ 76) MOST_SIZE_5 5 S j h (omega arith) e (omega arith)
values_fit_lem (suc (suc (suc (suc (suc (suc zero)))))) j S e h = power_at (2 ^ 76) MOST_SIZE_6 6 S j h (omega arith) e (omega arith)
values_fit_lem (suc (suc (suc (suc (suc (suc (suc n))))))) j S e h = let a = power_of_zero S j h in omega arith

-- the law on steps
pub step_fits_lem : StepFits
step_fits_lem zero j S e h = absurd (omega arith)
step_fits_lem (suc zero) j S e h = absurd (omega arith)
step_fits_lem (suc (suc zero)) j S e h = products_at MOST_SIZE_2 0 1 S j (j + 1) h (omega arith) (omega arith) (omega arith) (omega arith)
step_fits_lem (suc (suc (suc zero))) j S e h = products_at MOST_SIZE_3 1 2 S j (j + 1) h (omega arith) (omega arith) (omega arith)
    (omega arith)
step_fits_lem (suc (suc (suc (suc zero)))) j S e h = products_at MOST_SIZE_4 2 3 S j (j + 1) h (omega arith) (omega arith) (omega arith)
    (omega arith)
step_fits_lem (suc (suc (suc (suc (suc zero))))) j S e h = products_at MOST_SIZE_5 3 4 S j (j + 1) h (omega arith) (omega arith) (omega arith)
    (omega arith)
step_fits_lem (suc (suc (suc (suc (suc (suc zero)))))) j S e h = products_at MOST_SIZE_6 4 5 S j (j + 1) h (omega arith) (omega arith)
    (omega arith) (omega arith)
step_fits_lem (suc (suc (suc (suc (suc (suc (suc n))))))) j S e h = products_of_zero S j (j + 1) h

-- the law on two values, each times an entry
pub combine_fits_lem : CombineFits
combine_fits_lem zero S h = products_at MOST_SIZE_1 1 0 S 1 0 h (omega arith) (omega arith) (omega arith) (omega arith)
combine_fits_lem (suc zero) S h = products_at MOST_SIZE_2 2 1 S 2 1 h (omega arith) (omega arith) (omega arith) (omega arith)
combine_fits_lem (suc (suc zero)) S h = products_at MOST_SIZE_3 3 2 S 3 2 h (omega arith) (omega arith) (omega arith) (omega arith)
combine_fits_lem (suc (suc (suc zero))) S h = products_at MOST_SIZE_4 4 3 S 4 3 h (omega arith) (omega arith) (omega arith) (omega arith)
combine_fits_lem (suc (suc (suc (suc zero)))) S h = products_at MOST_SIZE_5 5 4 S 5 4 h (omega arith) (omega arith) (omega arith) (omega arith)
combine_fits_lem (suc (suc (suc (suc (suc zero))))) S h = products_at MOST_SIZE_6 6 5 S 6 5 h (omega arith) (omega arith) (omega arith)
    (omega arith)
combine_fits_lem (suc (suc (suc (suc (suc (suc k)))))) S h = products_of_zero S (suc (suc (suc (suc (suc (suc (suc k)))))))
    (suc (suc (suc (suc (suc (suc k)))))) h
