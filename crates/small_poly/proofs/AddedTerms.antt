-- Coefficients that are added place by place.
use Rattle.std.proofs.Common.{◌≡◌, ◌≢◌, ℕ, ◌+◌, ◌^◌, ◌<◌, ◌≤◌, ◌⊎◌, inl, inr, List, ℤ, pos, ◌+ℤ◌, nat_abs, length, ap, ◌∙◌, arith}
use Rattle.std.proofs.Math.ListN.{set}
use Rattle.std.proofs.lemmas.List.{length-set, get_or-set_same, get_or-set_other}
use Rattle.std.proofs.lemmas.Int.{fits_signed_from_abs}
use Rattle.std.specs.Int.RustNames.{FitsSigned}
use Rattle.std.specs.Int.{w128}
use Rattle.lattice_theory.proofs.Integers.{linear}
use Rattle.lattice_theory.specs.Vector.{entry}
use Rattle.polynomial_theory.proofs.LowPowers.{large_or_not}

-- one place more
pub more_added : (sums first : List ℤ) (T : ℕ → ℤ) (k : ℕ) (t v : ℤ) → length sums ≡ 289 → k < 289
    → ((j : ℕ) → j < k → entry sums j ≡ entry first j +ℤ T j) → ((j : ℕ) → k ≤ j → entry sums j ≡ entry first j) → t ≡ T k → v ≡ entry sums k +ℤ t
    → (length (set sums k v) ≡ 289) × ((j : ℕ) → j < k + 1 → entry (set sums k v) j ≡ entry first j +ℤ T j)
    × ((j : ℕ) → k + 1 ≤ j → entry (set sums k v) j ≡ entry first j)
more_added sums first T k t v e h done left et ev = (length-set sums k v ∙ e, below, behind)
  where
    other : (j : ℕ) → j ≢ k → entry (set sums k v) j ≡ entry sums j
    other j n = get_or-set_other sums k j v (pos 0) n

    here : entry (set sums k v) k ≡ entry first k +ℤ T k
    here = get_or-set_same sums k v (pos 0) (omega arith) ∙ (let l = left k (omega arith) in omega (arith, linear))

    below : (j : ℕ) → j < k + 1 → entry (set sums k v) j ≡ entry first j +ℤ T j
    below j l = by (large_or_not j k)
      where
        by : (j < k) ⊎ (k ≤ j) → entry (set sums k v) j ≡ entry first j +ℤ T j
        by (inl m) = other j (λ e. absurd (omega arith)) ∙ done j m
        by (inr m) = at (omega arith)
          where
            at : j ≡ k → entry (set sums k v) j ≡ entry first j +ℤ T j
            at e = rw e here

    behind : (j : ℕ) → k + 1 ≤ j → entry (set sums k v) j ≡ entry first j
    behind j l = other j (λ e. absurd (omega arith)) ∙ left j (omega arith)

-- the sum fits
pub total_fits : (sums first : List ℤ) (T : ℕ → ℤ) (k : ℕ) (t : ℤ) → k < 289 → ((j : ℕ) → k ≤ j → entry sums j ≡ entry first j) → t ≡ T k
    → ((j : ℕ) → j < 289 → nat_abs (entry first j +ℤ T j) < 2 ^ 126) → FitsSigned w128 (entry sums k +ℤ t)
total_fits sums first T k t h left e small =
    let l = small k h in
    let f : nat_abs (entry sums k +ℤ t) ≡ nat_abs (entry first k +ℤ T k) = ap nat_abs (ap (λ (z : ℤ). z +ℤ t) (left k (omega arith)) ∙ ap (λ (z : ℤ). entry first k +ℤ z) e) in
    fits_signed_from_abs w128 (entry sums k +ℤ t) (omega arith)
