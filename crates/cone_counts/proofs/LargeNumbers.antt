-- Whether one of the first numbers of a set is above the limit.
use Rattle.std.proofs.Common.{◌≡◌, ◌⊎◌, inl, inr, ℕ, ◌+◌, ◌<◌, ◌≤◌, List, subst, arith}
use Rattle.std.proofs.lemmas.Bool.{cases_lt}
use Rattle.base_counts.specs.Counting.{count_at}
use Rattle.cone_counts.specs.CountSteps.{HasLarge}

-- one more isn't
pub few_more : (counts : List ℕ) (set degree : ℕ) → ((s : ℕ) → s < degree → count_at counts set s ≤ 2097152) → count_at counts set degree ≤ 2097152 → (s : ℕ)
    → s < degree + 1 → count_at counts set s ≤ 2097152
few_more counts set degree h k s l = by (cases_lt s degree)
  where
    by : (s < degree) ⊎ (degree ≤ s) → count_at counts set s ≤ 2097152
    by (inl m) = h s m
    by (inr m) = subst (λ (d : ℕ). count_at counts set d ≤ 2097152) (let e : degree ≡ s = omega (arith, l, m) in e) k

pub none_large : (counts : List ℕ) (set degrees : ℕ) → ((s : ℕ) → s < degrees → count_at counts set s ≤ 2097152) → HasLarge set degrees counts → ⊥
none_large counts set degrees h k = let a = h k.degree k.within in let b = k.large in omega (arith, a, b)
