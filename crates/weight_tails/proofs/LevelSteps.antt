-- The levels with one weight more.
use Rattle.std.proofs.Common.{◌≡◌, ◌≢◌, ◌⊎◌, ◌↔◌, inl, inr, ℕ, zero, suc, ◌+◌, ◌-◌, ◌*◌, ◌/◌, ◌<◌, ◌≤◌, List, [], ◌∷◌, ◌++◌, length, take}
use Rattle.std.proofs.Common.{get_or, refl, sym, ap, ◌∙◌, subst, arith}
use Rattle.std.specs.Prelude.{slice_set}
use Rattle.std.proofs.Math.Nat.{le-div_iff_mul-le}
use Rattle.std.proofs.lemmas.Bool.{cases_lt}
use Rattle.std.proofs.lemmas.List.{get_or-set_same, get_or-set_other}
use Rattle.weight_points.specs.steps.Waits.{CanTake}
use Rattle.weight_tails.specs.steps.Levels.{level, AreLevels, TellAlike}
use Rattle.weight_tails.proofs.LastWeights.{front, all, whole, more_taken, last_taken, take_last}

-- the levels of the numbers below the bound are made: whatever weights the old ones are of
abbrev pub AreMade : ℕ → ℕ → List ℕ → List ℕ → ℕ → Type 0
AreMade count weight old new bound = (weights : List ℕ) → length weights ≡ count → AreLevels weights old
    → (n : ℕ) → n < bound → n < length old → (level new n ≤ count + 1) ↔ CanTake (weights ++ weight ∷ []) n

-- the others are as before
abbrev pub AreLater : List ℕ → List ℕ → ℕ → Type 0
AreLater old new bound = (n : ℕ) → bound ≤ n → level new n ≡ level old n

module _ (count weight number x : ℕ) (old now : List ℕ) (within : number < length old) (columns : length now ≡ length old) where
  here : level (slice_set now number x) number ≡ x
  here = get_or-set_same now number x 0 (omega (arith, within, columns))

  elsewhere : (n : ℕ) → n ≢ number → level (slice_set now number x) n ≡ level now n
  elsewhere n apart = get_or-set_other now number n x 0 apart

  pub later_step : AreLater old now number → AreLater old (slice_set now number x) (number + 1)
  later_step later n h = elsewhere n (λ e. absurd (omega (arith, e, h))) ∙ later n (omega (arith, h))

  places : (n : ℕ) → (n ≡ number) ⊎ (n ≢ number)
  places n = by (cases_lt n number)
    where
      by : (n < number) ⊎ (number ≤ n) → (n ≡ number) ⊎ (n ≢ number)
      by (inl h) = inr (λ e. omega (arith, h, e))
      by (inr h) = by' (cases_lt number n)
        where
          by' : (number < n) ⊎ (n ≤ number) → (n ≡ number) ⊎ (n ≢ number)
          by' (inl l) = inr (λ e. omega (arith, l, e))
          by' (inr l) = inl (omega (arith, h, l))

  pub alike_step : AreLater old now number → ((k : ℕ) → k ≤ count → (level now number ≤ k) ↔ (x ≤ k)) → TellAlike count old now
      → TellAlike count old (slice_set now number x)
  alike_step later same alike k n few inside = by (places n)
    where
      at : (level old number ≤ k) ↔ (level (slice_set now number x) number ≤ k)
      at =
          let s = same k few in
          let e = later number (omega arith) in (
            λ h. subst (λ (v : ℕ). v ≤ k) (sym here) (s.0 (subst (λ (v : ℕ). v ≤ k) (sym e) h)),
            λ h. subst (λ (v : ℕ). v ≤ k) e (s.1 (subst (λ (v : ℕ). v ≤ k) here h)),
          )

      by : (n ≡ number) ⊎ (n ≢ number) → (level old n ≤ k) ↔ (level (slice_set now number x) n ≤ k)
      by (inl e) = subst (λ (m : ℕ). (level old m ≤ k) ↔ (level (slice_set now number x) m ≤ k)) (sym e) at
      by (inr apart) = subst (λ (v : ℕ). (level old n ≤ k) ↔ (v ≤ k)) (sym (elsewhere n apart)) (alike k n few inside)

  pub made_step : 1 ≤ weight → AreLater old now number
      → (x ≤ count + 1) ↔ ((level now number ≤ count) ⊎ ((weight ≤ number) × (level now (number - weight) ≤ count + 1)))
      → AreMade count weight old now number → AreMade count weight old (slice_set now number x) (number + 1)
  made_step positive later enough made weights long levels n below inside = by (places n)
    where
      of_old : (level now number ≤ count) ↔ CanTake weights number
      of_old =
          let l = levels count number (omega (arith, long)) within in
          let e = later number (omega arith) in
          let t : take count weights ≡ weights = subst (λ (k : ℕ). take k weights ≡ weights) long (all weights) in (
            λ h. subst (λ (xs : List ℕ). CanTake xs number) t (l.0 (subst (λ (v : ℕ). v ≤ count) e h)),
            λ c. subst (λ (v : ℕ). v ≤ count) (sym e) (l.1 (subst (λ (xs : List ℕ). CanTake xs number) (sym t) c)),
          )

      before : weight ≤ number → (level now (number - weight) ≤ count + 1) ↔ CanTake (weights ++ weight ∷ []) (number - weight)
      before h = made weights long levels (number - weight) (omega (arith, h, positive)) (omega (arith, within))

      more : CanTake (weights ++ weight ∷ []) number ↔ (CanTake weights number ⊎ ((weight ≤ number) × CanTake (weights ++ weight ∷ []) (number - weight)))
      more = more_taken weights weight number

      to : (level now number ≤ count) ⊎ ((weight ≤ number) × (level now (number - weight) ≤ count + 1)) → CanTake (weights ++ weight ∷ []) number
      to (inl h) = more.1 (inl (of_old.0 h))
      to (inr (h, l)) = more.1 (inr (h, (before h).0 l))

      from : CanTake weights number ⊎ ((weight ≤ number) × CanTake (weights ++ weight ∷ []) (number - weight))
          → (level now number ≤ count) ⊎ ((weight ≤ number) × (level now (number - weight) ≤ count + 1))
      from (inl c) = inl (of_old.1 c)
      from (inr (h, c)) = inr (h, (before h).1 c)

      at : (level (slice_set now number x) number ≤ count + 1) ↔ CanTake (weights ++ weight ∷ []) number
      at = (
        λ h. to (enough.0 (subst (λ (v : ℕ). v ≤ count + 1) here h)),
        λ c. subst (λ (v : ℕ). v ≤ count + 1) (sym here) (enough.1 (from (more.0 c))),
      )

      by : (n ≡ number) ⊎ (n ≢ number) → (level (slice_set now number x) n ≤ count + 1) ↔ CanTake (weights ++ weight ∷ []) n
      by (inl e) = subst (λ (m : ℕ). (level (slice_set now number x) m ≤ count + 1) ↔ CanTake (weights ++ weight ∷ []) m) (sym e) at
      by (inr apart) = subst (λ (v : ℕ). (v ≤ count + 1) ↔ CanTake (weights ++ weight ∷ []) n) (sym (elsewhere n apart))
          (made weights long levels n (below' apart) inside)
        where
          below' : n ≢ number → n < number
          below' a = by'' (cases_lt n number)
            where
              by'' : (n < number) ⊎ (number ≤ n) → n < number
              by'' (inl h) = h
              by'' (inr h) = absurd (a (omega (arith, h, below)))

-- the levels of all weights
pub levels_made : (count weight : ℕ) (old new : List ℕ) → length new ≡ length old → TellAlike count old new → AreMade count weight old new (length old)
    → (weights : List ℕ) → length weights ≡ count → AreLevels weights old → AreLevels (weights ++ weight ∷ []) new
levels_made count weight old new columns alike made weights long levels k n few inside = by (cases_lt count k)
  where
    long_more : (b : List ℕ) → length (b ++ weight ∷ []) ≡ length b + 1
    long_more [] = refl
    long_more (v ∷ b) = let h = long_more b in omega (arith, h)

    inside' : n < length old
    inside' = omega (arith, inside, columns)

    by : (count < k) ⊎ (k ≤ count) → (level new n ≤ k) ↔ CanTake (take k (weights ++ weight ∷ [])) n
    by (inl h) =
        let l = long_more weights in
        let e : k ≡ suc (length weights) = omega (arith, h, few, l, long) in
        let e' : k ≡ count + 1 = omega (arith, e, long) in
        let m = made weights long levels n inside' inside' in
        let t : take k (weights ++ weight ∷ []) ≡ weights ++ weight ∷ [] =
        subst (λ (j : ℕ). take j (weights ++ weight ∷ []) ≡ weights ++ weight ∷ []) (sym e) (whole weights weight) in
        subst (λ (xs : List ℕ). (level new n ≤ k) ↔ CanTake xs n) (sym t)
        (subst (λ (j : ℕ). (level new n ≤ j) ↔ CanTake (weights ++ weight ∷ []) n) (sym e') m)
    by (inr h) =
        let t = front weights weight k (omega (arith, h, long)) in
        let l = levels k n (omega (arith, h, long)) inside' in
        let a = alike k n h inside' in
        subst (λ (xs : List ℕ). (level new n ≤ k) ↔ CanTake xs n) (sym t) (λ x. l.0 (a.1 x), λ c. a.0 (l.1 c))

-- levels that tell alike are levels of the same weights
pub levels_alike : (count : ℕ) (old new weights : List ℕ) → length new ≡ length old → TellAlike count old new → length weights ≤ count
    → AreLevels weights old → AreLevels weights new
levels_alike count old new weights columns alike long levels k n few inside =
    let inside' : n < length old = omega (arith, inside, columns) in
    let l = levels k n few inside' in
    let a = alike k n (omega (arith, few, long)) inside' in
    (λ x. l.0 (a.1 x), λ c. a.0 (l.1 c))

-- a front of a front, and its length
pub shorter : (k j : ℕ) (xs : List ℕ) → k ≤ j → take k (take j xs) ≡ take k xs
shorter zero zero [] h = refl
shorter zero zero (x ∷ xs) h = refl
shorter zero (suc j) [] h = refl
shorter zero (suc j) (x ∷ xs) h = refl
shorter (suc k) zero xs h = absurd (omega (arith, h))
shorter (suc k) (suc j) [] h = refl
shorter (suc k) (suc j) (x ∷ xs) h = ap (λ (ys : List ℕ). x ∷ ys) (shorter k j xs (omega (arith, h)))

pub front_length : (k : ℕ) (xs : List ℕ) → k ≤ length xs → length (take k xs) ≡ k
front_length zero [] h = refl
front_length zero (x ∷ xs) h = refl
front_length (suc k) [] h = absurd (omega (arith, h))
front_length (suc k) (x ∷ xs) h = let e = front_length k xs (omega (arith, h)) in omega (arith, e)

module _ (weights levels : List ℕ) (some : 1 ≤ length weights) (are : AreLevels (take (length weights - 1) weights) levels) where
  -- the levels of all weights but the last tell what the first ones take
  pub levels_tell : (p n : ℕ) → p < length weights → n < length levels → (level levels n ≤ p) ↔ CanTake (take p weights) n
  levels_tell p n h inside = subst (λ (xs : List ℕ). (level levels n ≤ p) ↔ CanTake xs n) (shorter p (length weights - 1) weights (omega (arith, h)))
      (are p n (let e = front_length (length weights - 1) weights (omega (arith, some)) in omega (arith, e, h)) inside)

  weights_whole : take (suc (length weights - 1)) weights ≡ weights
  weights_whole = let e : length weights ≡ suc (length weights - 1) = omega (arith, some) in subst (λ (k : ℕ). take k weights ≡ weights) e (all weights)

  last_within : length weights - 1 < length weights
  last_within = omega (arith, some)

  module _ (number : ℕ) (inside : number < length levels) where
    pub taken_at : (t rest : ℕ) → rest + t * get_or weights (length weights - 1) 0 ≡ number → level levels rest ≤ length weights - 1
        → CanTake weights number
    taken_at t rest e low = subst (λ (xs : List ℕ). CanTake xs number) weights_whole (take_last weights (length weights - 1) number last_within t rest e
        ((levels_tell (length weights - 1) rest last_within (omega (arith, e, inside))).0 low))

    pub not_taken_at : (t m : ℕ) → m + t * get_or weights (length weights - 1) 0 ≡ number → CanTake (take (length weights - 1) weights) m
        → level levels m ≤ length weights - 1
    not_taken_at t m e c = (levels_tell (length weights - 1) m last_within (omega (arith, e, inside))).1 c

    pub never_taken : ((t m : ℕ) → t < number / get_or weights (length weights - 1) 0 + 1 → m + t * get_or weights (length weights - 1) 0 ≡ number
        → CanTake (take (length weights - 1) weights) m → ⊥) → 0 < get_or weights (length weights - 1) 0 → CanTake weights number → ⊥
    never_taken none positive c =
        let r = last_taken weights (length weights - 1) number last_within (subst (λ (xs : List ℕ). CanTake xs number) (sym weights_whole) c) in
        let e = r.1.1.0 in
        let most = (le-div_iff_mul-le positive).1 (at r.0 r.1.0 e) in
        none r.0 r.1.0 (omega (arith, most)) e r.1.1.1
      where
        at : (t m : ℕ) → m + t * get_or weights (length weights - 1) 0 ≡ number → t * get_or weights (length weights - 1) 0 ≤ number
        at t m e = omega (arith, e)
