-- The numbers of classes, shared among sets.
use Rattle.std.proofs.Common.{◌≡◌, ◌⊎◌, inl, inr, ℕ, suc, ◌+◌, ◌-◌, ◌*◌, ◌<◌, ◌≤◌, List, length, get_or, slice_set, take, drop, refl, sym, ◌∙◌, subst, arith}
use Rattle.std.proofs.lemmas.Bool.{cases_eq, cases_lt}
use Rattle.std.proofs.lemmas.List.{get_or-set_same, get_or-set_other, get_or-take, get_or-drop}
use Rattle.bit_pool.specs.Bits.{IsSubset}
use Rattle.base_counts.specs.Counting.{set_at, count_at}
use Rattle.dilate_counts.specs.Classes.{Gathered, none, inside, outside, IsSummed, IsShared, AreShared, HaveFewTotals}
use Rattle.dilate_counts.proofs.Gathering.{gathered_grows}

-- nothing is added yet
pub summed_none : (at : ℕ) (seen counts : List ℕ) → IsSummed at seen 0 counts counts
summed_none at seen counts = record { added = λ l h. absurd (omega (arith, h)); others = λ i h. refl }

-- one number more is
module _ (at : ℕ) (seen : List ℕ) (l : ℕ) (old new : List ℕ) (s : IsSummed at seen l old new) where
  pub not_yet : get_or new (at + l) 0 ≡ get_or old (at + l) 0
  not_yet = s.others (at + l) (inr (omega arith))

  abbrev pub grown : List ℕ
  grown = slice_set new (at + l) (get_or new (at + l) 0 + get_or seen l 0)

  pub summed_more : at + l < length new → IsSummed at seen (l + 1) old grown
  summed_more room = record { added = added; others = others }
    where
      other : (i : ℕ) → (i ≡ at + l → ⊥) → get_or grown i 0 ≡ get_or new i 0
      other i d = get_or-set_other new (at + l) i (get_or new (at + l) 0 + get_or seen l 0) 0 d

      added : (j : ℕ) → j < l + 1 → get_or grown (at + j) 0 ≡ get_or old (at + j) 0 + get_or seen j 0
      added j h = by (cases_eq j l)
        where
          here : get_or grown (at + l) 0 ≡ get_or old (at + l) 0 + get_or seen l 0
          here =
              let e = get_or-set_same new (at + l) (get_or new (at + l) 0 + get_or seen l 0) 0 room in
              let f = not_yet in
              omega (arith, e, f)

          by : (j ≡ l) ⊎ (j ≡ l → ⊥) → get_or grown (at + j) 0 ≡ get_or old (at + j) 0 + get_or seen j 0
          by (inl e) = subst (λ (q : ℕ). get_or grown (at + q) 0 ≡ get_or old (at + q) 0 + get_or seen q 0) (sym e) here
          by (inr d) = other (at + j) (λ e. d (omega (arith, e))) ∙ s.added j (below (cases_lt j l))
            where
              below : (j < l) ⊎ (l ≤ j) → j < l
              below (inl m) = m
              below (inr m) = absurd (d (omega (arith, h, m)))

      others : (i : ℕ) → (i < at) ⊎ (at + (l + 1) ≤ i) → get_or grown i 0 ≡ get_or old i 0
      others i (inl h) = other i (λ e. absurd (omega (arith, e, h))) ∙ s.others i (inl h)
      others i (inr h) = other i (λ e. absurd (omega (arith, e, h))) ∙ s.others i (inr (omega (arith, h)))

-- the numbers of one class, set by set
pub shared_none : (rows : List (List ℕ)) (words seen counts : List ℕ) → IsShared rows words seen 0 counts counts
shared_none rows words seen counts = record { each = λ k l h m. absurd (omega (arith, h)); others = λ k l h m. refl }

module _ (rows : List (List ℕ)) (words seen : List ℕ) (k : ℕ) (old new : List ℕ) (s : IsShared rows words seen k old new) where
  below : (j : ℕ) → j < k + 1 → (j ≡ k → ⊥) → j < k
  below j h d = by (cases_lt j k)
    where
      by : (j < k) ⊎ (k ≤ j) → j < k
      by (inl m) = m
      by (inr m) = absurd (d (omega (arith, h, m)))

  pub shared_out : (IsSubset (set_at rows k) words → ⊥) → IsShared rows words seen (k + 1) old new
  shared_out out = record { each = each; others = λ j l h m. s.others j l (omega (arith, h)) m }
    where
      each : (j l : ℕ) → j < k + 1 → l < 7 → (IsSubset (set_at rows j) words × (count_at new j l ≡ count_at old j l + get_or seen l 0))
          ⊎ ((IsSubset (set_at rows j) words → ⊥) × (count_at new j l ≡ count_at old j l))
      each j l h m = by (cases_eq j k)
        where
          by : (j ≡ k) ⊎ (j ≡ k → ⊥) → (IsSubset (set_at rows j) words × (count_at new j l ≡ count_at old j l + get_or seen l 0))
              ⊎ ((IsSubset (set_at rows j) words → ⊥) × (count_at new j l ≡ count_at old j l))
          by (inl e) = inr ((λ i. out (subst (λ (q : ℕ). IsSubset (set_at rows q) words) e i)), s.others j l (omega (arith, e)) m)
          by (inr d) = s.each j l (below j h d) m

  pub shared_in : (next : List ℕ) → IsSubset (set_at rows k) words → IsSummed (k * 7) seen 7 new next → IsShared rows words seen (k + 1) old next
  shared_in next i t = record { each = each; others = others }
    where
      kept : (j l : ℕ) → (j ≡ k → ⊥) → l < 7 → count_at next j l ≡ count_at new j l
      kept j l d m = by (cases_lt j k)
        where
          by : (j < k) ⊎ (k ≤ j) → count_at next j l ≡ count_at new j l
          by (inl h) = t.others (j * 7 + l) (inl (omega (arith, h, m)))
          by (inr h) = t.others (j * 7 + l) (inr (let apart : k < j = strictly (cases_lt k j) in omega (arith, apart)))
            where
              strictly : (k < j) ⊎ (j ≤ k) → k < j
              strictly (inl g) = g
              strictly (inr g) = absurd (d (omega (arith, h, g)))

      here : (l : ℕ) → l < 7 → count_at next k l ≡ count_at old k l + get_or seen l 0
      here l m = let e = t.added l m in let f = s.others k l (omega arith) m in omega (arith, e, f)

      each : (j l : ℕ) → j < k + 1 → l < 7 → (IsSubset (set_at rows j) words × (count_at next j l ≡ count_at old j l + get_or seen l 0))
          ⊎ ((IsSubset (set_at rows j) words → ⊥) × (count_at next j l ≡ count_at old j l))
      each j l h m = by (cases_eq j k)
        where
          before : (j ≡ k → ⊥) → (IsSubset (set_at rows j) words × (count_at new j l ≡ count_at old j l + get_or seen l 0))
              ⊎ ((IsSubset (set_at rows j) words → ⊥) × (count_at new j l ≡ count_at old j l))
              → (IsSubset (set_at rows j) words × (count_at next j l ≡ count_at old j l + get_or seen l 0))
              ⊎ ((IsSubset (set_at rows j) words → ⊥) × (count_at next j l ≡ count_at old j l))
          before d (inl c) = inl (c.0, kept j l d m ∙ c.1)
          before d (inr c) = inr (c.0, kept j l d m ∙ c.1)

          by : (j ≡ k) ⊎ (j ≡ k → ⊥) → (IsSubset (set_at rows j) words × (count_at next j l ≡ count_at old j l + get_or seen l 0))
              ⊎ ((IsSubset (set_at rows j) words → ⊥) × (count_at next j l ≡ count_at old j l))
          by (inl e) = inl (
            subst (λ (q : ℕ). IsSubset (set_at rows q) words) (sym e) i,
            subst (λ (q : ℕ). count_at next q l ≡ count_at old q l + get_or seen l 0) (sym e) (here l m),
          )
          by (inr d) = before d (s.each j l (below j h d) m)

      others : (j l : ℕ) → k + 1 ≤ j → l < 7 → count_at next j l ≡ count_at old j l
      others j l h m = kept j l (λ e. absurd (omega (arith, e, h))) m ∙ s.others j l (omega (arith, h)) m

-- a part of the counts of classes is those of one class
pub part_is : (seen : List ℕ) (c l : ℕ) → l < 7 → get_or (take (c * 7 + 7 - c * 7) (drop (c * 7) seen)) l 0 ≡ count_at seen c l
part_is seen c l h = get_or-take (c * 7 + 7 - c * 7) (drop (c * 7) seen) l 0 (omega (arith, h)) ∙ get_or-drop (c * 7) seen l 0

-- the numbers of all classes, class by class
pub all_shared_none : (rows classes : List (List ℕ)) (seen counts : List ℕ) → AreShared rows classes seen 0 counts counts
all_shared_none rows classes seen counts k l h m = (0, none, omega arith)

module _ (rows classes : List (List ℕ)) (seen : List ℕ) (c : ℕ) (within : c < length classes) (old new : List ℕ)
    (s : AreShared rows classes seen c old new) (part words : List ℕ) (is : words ≡ set_at classes c)
    (parts : (l : ℕ) → l < 7 → get_or part l 0 ≡ count_at seen c l) where
  -- no number becomes too large
  pub few_so_far : HaveFewTotals rows classes seen old → (k l : ℕ) → k < length rows → l < 7 → IsSubset (set_at rows k) words
      → count_at new k l + get_or part l 0 ≤ 4194304
  few_so_far few k l h m i =
      let t = few k l h m in
      let u = s k l h m in
      let gathered = gathered_grows (set_at rows k) classes seen l (suc c) (length classes) (u.0 + count_at seen c l) t.1.sum (omega (arith, within))
      (inside u.1 (subst (IsSubset (set_at rows k)) is i) refl) t.1.gathered in
      let total = t.1.total in
      let most = t.2 in
      let now = u.2 in
      let here = parts l m in
      omega (arith, gathered, total, most, now, here)

  pub all_shared_more : (next : List ℕ) → IsShared rows words part (length rows) new next → AreShared rows classes seen (c + 1) old next
  all_shared_more next t k l h m = by (t.each k l h m)
    where
      size : suc c ≡ c + 1
      size = omega arith

      by : (IsSubset (set_at rows k) words × (count_at next k l ≡ count_at new k l + get_or part l 0))
          ⊎ ((IsSubset (set_at rows k) words → ⊥) × (count_at next k l ≡ count_at new k l))
          → (sum : ℕ) × Gathered (set_at rows k) classes seen l (c + 1) sum × (count_at next k l ≡ count_at old k l + sum)
      by (inl a) =
          let u = s k l h m in
          let here = parts l m in
          let now = u.2 in
          let e = a.1 in (
            u.0 + count_at seen c l,
            subst (λ (j : ℕ). Gathered (set_at rows k) classes seen l j (u.0 + count_at seen c l)) size
                (inside u.1 (subst (IsSubset (set_at rows k)) is a.0) refl),
            omega (arith, here, now, e),
          )
      by (inr a) =
          let u = s k l h m in (
            u.0,
            subst (λ (j : ℕ). Gathered (set_at rows k) classes seen l j u.0) size (outside u.1 (λ i. a.0 (subst (IsSubset (set_at rows k)) (sym is) i))),
            a.1 ∙ u.2,
          )
