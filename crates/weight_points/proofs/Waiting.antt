-- How often a weight is taken before the weights behind it can take exactly what is left.
use Rattle.std.proofs.Common.{◌≡◌, ◌⊎◌, ◌↔◌, inl, inr, ℕ, zero, suc, ◌+◌, ◌-◌, ◌*◌, ◌<◌, ◌≤◌, List, [], ◌∷◌, ◌++◌, length, get_or, drop, refl, sym, subst, arith}
use Rattle.std.proofs.Math.Nat.{le-mul_of_pos_right}
use Rattle.std.proofs.lemmas.Bool.{cases_lt}
use Rattle.std.proofs.lemmas.List.{get_or_append_left, get_or_at, drop_more}
use Rattle.lattice_core.specs.declared.limits.TheConstants.{MOST_DEGREE}
use Rattle.weight_points.specs.declared.waits.TheConstants.{NEVER}
use Rattle.weight_points.specs.steps.Waits.{spent, CanTake, IsReach, Takes, IsWait, AreWaits}

-- no exponents take nothing
pub spent_none : (weights : List ℕ) → spent weights [] ≡ 0
spent_none [] = refl
spent_none (w ∷ weights) = refl

-- no weights take only nothing
pub zero_taken : (n : ℕ) → n ≡ 0 → (0 < NEVER) ↔ CanTake [] n
zero_taken n e = (λ l. ([], sym e), λ c. omega arith)

pub none_taken : (n : ℕ) → (n ≡ 0 → ⊥) → (NEVER < NEVER) ↔ CanTake [] n
none_taken n h = (λ l. absurd (omega arith), λ c. absurd (h (sym c.1)))

module _ (weight n : ℕ) (weights : List ℕ) where
  -- the weights behind take all
  pub at_once : CanTake weights n → IsWait weight weights n 0
  at_once (b, e) = record { takes = λ h. (b, omega arith); least = λ j t. omega arith }

  without : Takes weight weights n 0 → CanTake weights n
  without (b, e) = (b, omega arith)

  -- the weight can't be taken
  never_taken : (CanTake weights n → ⊥) → (weight ≡ 0) ⊎ (n < weight) → (j : ℕ) → Takes weight weights n j → ⊥
  never_taken none h zero t = none (without t)
  never_taken none (inl z) (suc j) (b, e) = none (b, let e' = rw z at e in omega arith)
  never_taken none (inr l) (suc j) (b, e) = absurd (omega arith)

  pub never : (CanTake weights n → ⊥) → (weight ≡ 0) ⊎ (n < weight) → IsWait weight weights n NEVER
  never none h = record { takes = λ l. absurd (omega arith); least = λ j t. absurd (never_taken none h j t) }

  -- it is taken once more than for what is left then
  before : (CanTake weights n → ⊥) → weight ≤ n → (j : ℕ) → Takes weight weights n j
      → (i : ℕ) × ((j ≡ suc i) × Takes weight weights (n - weight) i)
  before none h zero t = absurd (none (without t))
  before none h (suc i) (b, e) = (i, (refl, (b, omega arith)))

  once_more : (k : ℕ) → weight ≤ n → Takes weight weights (n - weight) k → Takes weight weights n (k + 1)
  once_more k h (b, e) = (b, omega arith)

  pub later : (k : ℕ) → (CanTake weights n → ⊥) → weight ≤ n → IsWait weight weights (n - weight) k → k < NEVER
      → IsWait weight weights n (k + 1)
  later k none h w l = record {
    takes = λ m. once_more k h (w.takes l);
    least = λ j t.
        let one = before none h j t in
        let below = w.least one.0 one.1.1 in
        let is = one.1.0 in
        omega arith;
  }

  pub never_later : (k : ℕ) → (CanTake weights n → ⊥) → weight ≤ n → IsWait weight weights (n - weight) k → NEVER ≤ k
      → IsWait weight weights n NEVER
  never_later k none h w l = record {
    takes = λ m. absurd (omega arith);
    least = λ j t.
        let one = before none h j t in
        let below = w.least one.0 one.1.1 in
        let is = one.1.0 in
        omega arith;
  }

  -- so the table tells what the weights take, with this one
  reached : (k : ℕ) → Takes weight weights n k → CanTake (weight ∷ weights) n
  reached k (b, e) = (k ∷ b, omega arith)

  record TakesFew : Type 0 where
    times : ℕ
    few : times < NEVER
    takes : Takes weight weights n times

  few_are_enough : n ≤ MOST_DEGREE → CanTake (weight ∷ weights) n → TakesFew
  few_are_enough small ([], e) = record { times = 0; few = omega arith; takes = ([], let none = spent_none weights in omega arith) }
  few_are_enough small (j ∷ b, e) = by (cases_lt 0 weight)
    where
      by : (0 < weight) ⊎ (weight ≤ 0) → TakesFew
      by (inl h) = let most : j ≤ j * weight = le-mul_of_pos_right _ h in
          record { times = j; few = omega arith; takes = (b, omega arith) }
      by (inr h) = let zero_weight : weight ≡ 0 = omega arith in let e' = rw zero_weight at e in
          record { times = 0; few = omega arith; takes = (b, omega arith) }

  reach_there : (k : ℕ) → n ≤ MOST_DEGREE → IsWait weight weights n k → (k < NEVER) ↔ CanTake (weight ∷ weights) n
  reach_there k small w = (
    λ l. reached k (w.takes l),
    λ c.
        let t = few_are_enough small c in
        let least = w.least t.times t.takes in
        let few = t.few in
        omega arith,
  )

pub reach_of_waits : (weight : ℕ) (weights waits : List ℕ) → length waits ≤ MOST_DEGREE + 1 → AreWaits weight weights waits
    → IsReach (weight ∷ weights) waits
reach_of_waits weight weights waits small are n within = reach_there weight n weights (get_or waits n 0) (omega arith) (are n within)

-- a table that grows
pub grown : (P : ℕ → ℕ → Type 0) (waits : List ℕ) (n x : ℕ) → length waits ≡ n → ((m : ℕ) → m < n → P m (get_or waits m 0)) → P n x
    → (m : ℕ) → m < n + 1 → P m (get_or (waits ++ x ∷ []) m 0)
grown P waits n x columns known last m h = by (cases_lt m n)
  where
    by : (m < n) ⊎ (n ≤ m) → P m (get_or (waits ++ x ∷ []) m 0)
    by (inl l) = rw (get_or_append_left waits (x ∷ []) 0 m (omega arith)) (known m l)
    by (inr l) =
        let same : m ≡ n = omega arith in
        let there : get_or (waits ++ x ∷ []) n 0 ≡ x = get_or_at waits x [] 0 n columns in
        rw (same, there) last

-- the tables of one place more
module _ (weights : List ℕ) (degree i place : ℕ) (tables : List (List ℕ)) (next : List ℕ) (is_next : i ≡ place + 1)
    (within : i ≤ length weights) (columns : length tables + i ≡ length weights + 1) where
  pub rows_more : ((k : ℕ) → k < length tables → length (get_or tables k []) ≡ degree + 1) → length next ≡ degree + 1
      → (k : ℕ) → k < length tables + 1 → length (get_or (tables ++ next ∷ []) k []) ≡ degree + 1
  rows_more rows last k h = by (cases_lt k (length tables))
    where
      by : (k < length tables) ⊎ (length tables ≤ k) → length (get_or (tables ++ next ∷ []) k []) ≡ degree + 1
      by (inl l) = rw (get_or_append_left tables (next ∷ []) [] k l) (rows k l)
      by (inr l) =
          let same : length tables ≡ k = omega arith in
          rw (get_or_at tables next [] [] k same) last

  pub each_more : ((k p : ℕ) → k + p ≡ length weights → i ≤ p → p < length weights
      → AreWaits (get_or weights p 0) (drop (suc p) weights) (get_or tables k []))
      → AreWaits (get_or weights place 0) (drop i weights) next
      → (k p : ℕ) → k + p ≡ length weights → place ≤ p → p < length weights
      → AreWaits (get_or weights p 0) (drop (suc p) weights) (get_or (tables ++ next ∷ []) k [])
  each_more each last k p e l h = by (cases_lt place p)
    where
      by : (place < p) ⊎ (p ≤ place) → AreWaits (get_or weights p 0) (drop (suc p) weights) (get_or (tables ++ next ∷ []) k [])
      by (inl m) = rw (get_or_append_left tables (next ∷ []) [] k (omega arith)) (each k p e (omega arith) h)
      by (inr m) =
          let same : length tables ≡ k = omega arith in
          let here : p ≡ place = omega arith in
          let behind : suc place ≡ i = omega arith in
          rw (get_or_at tables next [] [] k same, here, behind) last

  pub last_more : AreWaits (get_or weights place 0) (drop i weights) next → length next ≤ MOST_DEGREE + 1
      → (k : ℕ) → k + place ≡ length weights → IsReach (drop place weights) (get_or (tables ++ next ∷ []) k [])
  last_more last small k e =
      let same : length tables ≡ k = omega arith in
      let split : drop place weights ≡ get_or weights place 0 ∷ drop i weights =
      subst (λ (m : ℕ). drop place weights ≡ get_or weights place 0 ∷ drop m weights) (sym is_next) (drop_more weights place 0 (omega arith)) in
      rw (get_or_at tables next [] [] k same, split) (reach_of_waits (get_or weights place 0) (drop i weights) next small last)
