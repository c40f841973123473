-- Counts of the first sets.
use Rattle.std.specs.Prelude.{slice_set}
use Rattle.std.proofs.Common.{◌≡◌, ◌≢◌, ◌⊎◌, inl, inr, ℕ, suc, ◌+◌, ◌*◌, ◌<◌, ◌≤◌, List, length, get_or, sym, ◌∙◌, subst, arith}
use Rattle.std.proofs.lemmas.Bool.{cases_eq, cases_lt}
use Rattle.std.proofs.lemmas.List.{get_or-set_same, get_or-set_other}
use Rattle.bit_pool.specs.Bits.{IsSubset}
use Rattle.base_counts.specs.Counting.{set_at, count_at, IsCounted}

-- so for the first i sets, and the others are as before
pub record IsAddedTo (rows : List (List ℕ)) (tight : List ℕ) (degree i : ℕ) (old new : List ℕ) : Type 0 where
  pub counted : (k : ℕ) → k < i → IsCounted (set_at rows k) tight (count_at old k degree) (count_at new k degree)
  pub others : (k l : ℕ) → l < 7 → l ≢ degree → count_at new k l ≡ count_at old k l
  pub behind : (k : ℕ) → i ≤ k → count_at new k degree ≡ count_at old k degree

below : (k i : ℕ) → k < i + 1 → (k ≡ i → ⊥) → k < i
below k i l d = by (cases_eq k i) (cases_lt k i)
  where
    by : (k ≡ i) ⊎ (k ≡ i → ⊥) → (k < i) ⊎ (i ≤ k) → k < i
    by e (inl h) = h
    by (inl e) (inr h) = absurd (d e)
    by (inr e) (inr h) = absurd (d (omega (arith, l, h)))

module _ (rows : List (List ℕ)) (tight : List ℕ) (degree i : ℕ) (old new : List ℕ) (a : IsAddedTo rows tight degree i old new) where
  -- the next set isn't within the words
  pub pass_one : (IsSubset (set_at rows i) tight → ⊥) → IsAddedTo rows tight degree (i + 1) old new
  pass_one none = record { counted = counted; others = a.others; behind = λ k h. a.behind k (omega (arith, h)) }
    where
      counted : (k : ℕ) → k < i + 1 → IsCounted (set_at rows k) tight (count_at old k degree) (count_at new k degree)
      counted k l = by (cases_eq k i)
        where
          by : (k ≡ i) ⊎ (k ≡ i → ⊥) → IsCounted (set_at rows k) tight (count_at old k degree) (count_at new k degree)
          by (inl e) = inr ((λ s. none (subst (λ (j : ℕ). IsSubset (set_at rows j) tight) e s)), a.behind k (omega (arith, e)))
          by (inr d) = a.counted k (below k i l d)

  -- it is
  module _ (within : i * 7 + degree < length new) (small : degree < 7) (s : IsSubset (set_at rows i) tight) where
    abbrev next : List ℕ
    next = slice_set new (i * 7 + degree) (get_or new (i * 7 + degree) 0 + 1)

    here : count_at next i degree ≡ suc (count_at old i degree)
    here = get_or-set_same new (i * 7 + degree) (get_or new (i * 7 + degree) 0 + 1) 0 within
        ∙ (let e = a.behind i (omega arith) in omega (arith, e))

    other : (k l : ℕ) → l < 7 → ((k ≡ i) × (l ≡ degree) → ⊥) → count_at next k l ≡ count_at new k l
    other k l m d = get_or-set_other new (i * 7 + degree) (k * 7 + l) (get_or new (i * 7 + degree) 0 + 1) 0
        (λ e. d (omega (arith, e, m, small), omega (arith, e, m, small)))

    pub count_one : IsAddedTo rows tight degree (i + 1) old next
    count_one = record {
      counted = counted;
      others = λ k l m d. other k l m (λ p. d p.1) ∙ a.others k l m d;
      behind = λ k h. other k degree small (λ p. let e = p.0 in omega (arith, e, h)) ∙ a.behind k (omega (arith, h));
    }
      where
        counted : (k : ℕ) → k < i + 1 → IsCounted (set_at rows k) tight (count_at old k degree) (count_at next k degree)
        counted k l = by (cases_eq k i)
          where
            by : (k ≡ i) ⊎ (k ≡ i → ⊥) → IsCounted (set_at rows k) tight (count_at old k degree) (count_at next k degree)
            by (inl e) = inl (
              subst (λ (j : ℕ). IsSubset (set_at rows j) tight) (sym e) s,
              subst (λ (j : ℕ). count_at next j degree ≡ suc (count_at old j degree)) (sym e) here,
            )
            by (inr d) = subst (IsCounted (set_at rows k) tight (count_at old k degree)) (sym (other k degree small (λ p. d p.0)))
                (a.counted k (below k i l d))
