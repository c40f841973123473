-- Numbers of points of sets, as one more point is counted.
use Rattle.std.proofs.Common.{◌≡◌, ◌⊎◌, inl, inr, ℕ, suc, ◌+◌, ◌-◌, ◌*◌, ◌<◌, ◌≤◌, List, [], ◌∷◌, ◌++◌, length, get_or, slice_set, sym, ◌∙◌, subst, arith}
use Rattle.std.proofs.lemmas.Bool.{cases_eq}
use Rattle.std.proofs.lemmas.List.{get_or-set_same, get_or-set_other, length-append}
use Rattle.std.proofs.lemmas.List.Elements.{All-get_or, All-set, All-weaker}
use Rattle.std.proofs.Math.Seq.{get_or-append_seam}
use Rattle.bit_pool.specs.Bits.{IsSubset}
use Rattle.base_counts.specs.Counting.{set_at, count_at, IsCounted, IsAddedAt}
use Rattle.base_counts.specs.Visited.{AreWithin}
use Rattle.dilate_counts.specs.Classes.{Gathered, inside, outside, IsTotal, IsClear, StayLow, IsCountedAt, AreTotalsRaised}
use Rattle.dilate_counts.proofs.Gathering.{subset_or_not, gathered_with, gathered_as, gathered_more, gathered_same}

module _ (rows : List (List ℕ)) (words : List ℕ) (degree : ℕ) (classes : List (List ℕ)) (seen counts : List ℕ) where
  -- a point that is counted for each set directly
  pub totals_direct : (new : List ℕ) → IsAddedAt rows words degree counts new → AreTotalsRaised rows words degree classes seen counts classes seen new
  totals_direct new added k l v h m t = by (cases_eq l degree)
    where
      raised : count_at new k l ≡ suc (count_at counts k l) → IsTotal rows classes seen new k l (suc v)
      raised e = record { sum = t.sum; gathered = t.gathered; total = let s = t.total in omega (arith, e, s) }

      kept : count_at new k l ≡ count_at counts k l → IsTotal rows classes seen new k l v
      kept e = record { sum = t.sum; gathered = t.gathered; total = let s = t.total in omega (arith, e, s) }

      at : l ≡ degree → IsCounted (set_at rows k) words (count_at counts k degree) (count_at new k degree)
          → (IsCountedAt rows words degree k l × IsTotal rows classes seen new k l (suc v))
          ⊎ ((IsCountedAt rows words degree k l → ⊥) × IsTotal rows classes seen new k l v)
      at e (inl c) = inl ((c.0, e), raised (subst (λ (q : ℕ). count_at new k q ≡ suc (count_at counts k q)) (sym e) c.1))
      at e (inr c) = inr ((λ p. c.0 p.0), kept (subst (λ (q : ℕ). count_at new k q ≡ count_at counts k q) (sym e) c.1))

      by : (l ≡ degree) ⊎ (l ≡ degree → ⊥) → (IsCountedAt rows words degree k l × IsTotal rows classes seen new k l (suc v))
          ⊎ ((IsCountedAt rows words degree k l → ⊥) × IsTotal rows classes seen new k l v)
      by (inl e) = at e (added.counted k h)
      by (inr d) = inr ((λ p. d p.1), kept (added.others k l h m d))

  -- a point that is counted in a class with these words
  module _ (place : ℕ) (within : place < length classes) (is : set_at classes place ≡ words) (small : degree < 7) (room : place * 7 + degree < length seen) where
    abbrev pub next : List ℕ
    next = slice_set seen (place * 7 + degree) (get_or seen (place * 7 + degree) 0 + 1)

    here : count_at next place degree ≡ suc (count_at seen place degree)
    here = let e = get_or-set_same seen (place * 7 + degree) (get_or seen (place * 7 + degree) 0 + 1) 0 room in omega (arith, e)

    other : (i l : ℕ) → l < 7 → ((i ≡ place) × (l ≡ degree) → ⊥) → count_at next i l ≡ count_at seen i l
    other i l m d = get_or-set_other seen (place * 7 + degree) (i * 7 + l) (get_or seen (place * 7 + degree) 0 + 1) 0
        (λ e. d (omega (arith, e, m, small), omega (arith, e, m, small)))

    pub totals_classed : (width : ℕ) → AreWithin width rows → AreTotalsRaised rows words degree classes seen counts classes next counts
    totals_classed width few k l v h m t = by (cases_eq l degree)
      where
        kept : Gathered (set_at rows k) classes next l (length classes) t.sum → IsTotal rows classes next counts k l v
        kept g = record { sum = t.sum; gathered = g; total = t.total }

        raised : Gathered (set_at rows k) classes next l (length classes) (suc t.sum) → IsTotal rows classes next counts k l (suc v)
        raised g = record { sum = suc t.sum; gathered = g; total = let s = t.total in omega (arith, s) }

        more : l ≡ degree → count_at next place l ≡ suc (count_at seen place l)
        more e = subst (λ (q : ℕ). count_at next place q ≡ suc (count_at seen place q)) (sym e) here

        at : l ≡ degree → (IsSubset (set_at rows k) words) ⊎ (IsSubset (set_at rows k) words → ⊥)
            → (IsCountedAt rows words degree k l × IsTotal rows classes next counts k l (suc v))
            ⊎ ((IsCountedAt rows words degree k l → ⊥) × IsTotal rows classes next counts k l v)
        at e (inl s) = inl (
          (s, e),
          raised (gathered_more (set_at rows k) classes seen next l place (more e) (λ i d. other i l m (λ p. d p.0))
              (length classes - suc place) (length classes) t.sum (omega (arith, within)) (subst (IsSubset (set_at rows k)) (sym is) s) t.gathered),
        )
        at e (inr s) = inr (
          (λ p. s p.0),
          kept (gathered_same (set_at rows k) classes seen next l place (more e) (λ i d. other i l m (λ p. d p.0))
              (length classes) t.sum (λ i. s (subst (IsSubset (set_at rows k)) is i)) t.gathered),
        )

        by : (l ≡ degree) ⊎ (l ≡ degree → ⊥) → (IsCountedAt rows words degree k l × IsTotal rows classes next counts k l (suc v))
            ⊎ ((IsCountedAt rows words degree k l → ⊥) × IsTotal rows classes next counts k l v)
        by (inl e) = at e (subset_or_not (set_at rows k) words width (few k h))
        by (inr d) = inr ((λ p. d p.1), kept (gathered_as (set_at rows k) classes seen next l (length classes) t.sum (λ i j. other i l m (λ p. d p.1)) t.gathered))

    pub still_clear : IsClear classes seen → IsClear classes next
    still_clear clear i h = get_or-set_other seen (place * 7 + degree) i (get_or seen (place * 7 + degree) 0 + 1) 0
        (λ e. absurd (omega (arith, e, h, within, small))) ∙ clear i h

    pub stay_low : StayLow seen next
    stay_low left low = All-set (λ count. count + left ≤ 4194304) seen (place * 7 + degree) (get_or seen (place * 7 + degree) 0 + 1)
        (let b = All-get_or (λ count. count + suc left ≤ 4194304) seen (place * 7 + degree) 0 room low in omega (arith, b))
        (All-weaker (λ count. count + suc left ≤ 4194304) (λ count. count + left ≤ 4194304) (λ count b. omega (arith, b)) seen low)

  -- a class more, in which no point is counted yet
  pub totals_with : (more : List ℕ) (width k l v : ℕ) → AreWithin width rows → IsClear classes seen → k < length rows → IsTotal rows classes seen counts k l v
      → IsTotal rows (classes ++ more ∷ []) seen counts k l v
  totals_with more width k l v few clear h t = record { sum = t.sum; gathered = by (subset_or_not (set_at rows k) more width (few k h)); total = t.total }
    where
      size : suc (length classes) ≡ length (classes ++ more ∷ [])
      size = let e = length-append classes (more ∷ []) in omega (arith, e)

      last : set_at (classes ++ more ∷ []) (length classes) ≡ more
      last = get_or-append_seam classes more [] []

      others : Gathered (set_at rows k) (classes ++ more ∷ []) seen l (length classes) t.sum
      others = gathered_with (set_at rows k) classes more seen l (length classes) t.sum (omega arith) t.gathered

      by : IsSubset (set_at rows k) more ⊎ (IsSubset (set_at rows k) more → ⊥)
          → Gathered (set_at rows k) (classes ++ more ∷ []) seen l (length (classes ++ more ∷ [])) t.sum
      by (inl s) = subst (λ (j : ℕ). Gathered (set_at rows k) (classes ++ more ∷ []) seen l j t.sum) size
          (inside others (subst (IsSubset (set_at rows k)) (sym last) s) (let none = clear (length classes * 7 + l) (omega arith) in omega (arith, none)))
      by (inr s) = subst (λ (j : ℕ). Gathered (set_at rows k) (classes ++ more ∷ []) seen l j t.sum) size
          (outside others (λ i. s (subst (IsSubset (set_at rows k)) last i)))

  pub clear_with : (more : List ℕ) → IsClear classes seen → IsClear (classes ++ more ∷ []) seen
  clear_with more clear i h = clear i (let e = length-append classes (more ∷ []) in omega (arith, e, h))
