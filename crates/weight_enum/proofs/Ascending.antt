-- Lists that ascend, by neighbours.
use Rattle.std.proofs.Common.{◌≡◌, ◌⊎◌, inl, inr, ℕ, zero, suc, ◌+◌, ◌-◌, ◌<◌, ◌≤◌, List, [], ◌∷◌, length, drop, get_or, ap, subst, arith}
use Rattle.std.proofs.lemmas.Bool.{cases_lt}
use Rattle.std.proofs.lemmas.List.{drop_more, drop_all}
use Rattle.lattice_theory.specs.Order.{Ascends}
use Rattle.lattice_core.specs.Weights.{total}
use Rattle.lattice_theory.proofs.Members.{empty, more, each_from_all, all_from_each, each_weaker}

pub ascends_from_steps : (xs : List ℕ) → ((j : ℕ) → suc j < length xs → get_or xs j 0 ≤ get_or xs (suc j) 0) → Ascends (λ v w. v ≤ w) xs
ascends_from_steps [] steps = tt
ascends_from_steps (x ∷ []) steps = (all_from_each {P = λ w. x ≤ w} empty, tt)
ascends_from_steps (x ∷ y ∷ xs) steps =
    let rest = ascends_from_steps (y ∷ xs) (λ j h. steps (suc j) (omega (arith, h))) in
    let first : x ≤ y = steps 0 (omega arith) in
    (all_from_each {P = λ w. x ≤ w} (more first (each_weaker {P = λ w. y ≤ w} (λ w h. omega (arith, first, h)) (each_from_all (λ w. y ≤ w) xs rest.0))), rest)

pub steps_from_ascends : (xs : List ℕ) → Ascends (λ v w. v ≤ w) xs → (j : ℕ) → suc j < length xs → get_or xs j 0 ≤ get_or xs (suc j) 0
steps_from_ascends [] a j h = absurd (omega (arith, h))
steps_from_ascends (x ∷ xs) a zero h = a.0 0 0 (omega (arith, h))
steps_from_ascends (x ∷ xs) a (suc j) h = steps_from_ascends xs a.1 j (omega (arith, h))

pub one_step_more : (xs : List ℕ) (i : ℕ) → 1 ≤ i → ((j : ℕ) → suc j < i → get_or xs j 0 ≤ get_or xs (suc j) 0)
    → get_or xs (i - 1) 0 ≤ get_or xs i 0 → (j : ℕ) → suc j < i + 1 → get_or xs j 0 ≤ get_or xs (suc j) 0
one_step_more xs i some steps last j h = by (cases_lt (suc j) i)
  where
    by : (suc j < i) ⊎ (i ≤ suc j) → get_or xs j 0 ≤ get_or xs (suc j) 0
    by (inl l) = steps j l
    by (inr l) =
        let same : i ≡ suc j = omega (arith, l, h) in
        let before : i - 1 ≡ j = omega (arith, same) in
        subst (λ (k : ℕ). get_or xs j 0 ≤ get_or xs k 0) same (subst (λ (k : ℕ). get_or xs k 0 ≤ get_or xs i 0) before last)

-- the sum of the numbers from a place on
pub total_drop : (xs : List ℕ) (i : ℕ) → i < length xs → total (drop i xs) ≡ get_or xs i 0 + total (drop (i + 1) xs)
total_drop xs i within = ap total (drop_more xs i 0 within)

pub total_end : (xs : List ℕ) (i sum : ℕ) → length xs ≤ i → sum + total (drop i xs) ≡ total xs → sum ≡ total xs
total_end xs i sum past e = let e' : sum + 0 ≡ total xs = rw (drop_all i xs past) at e in omega (arith, e')
