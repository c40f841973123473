-- A point that is counted in its class, or directly, is counted for the sets on which its base is 0.
use Rattle.std.proofs.Common.{◌≡◌, ◌⊎◌, inl, inr, ℕ, suc, ◌+◌, ◌*◌, ◌/◌, ◌%◌, ◌<◌, ◌≤◌, List, [], ◌∷◌, ◌++◌, length, get_or, slice_set, sym, subst, arith}
use Rattle.std.specs.Prelude.{ℤ}
use Rattle.std.proofs.lemmas.Bool.{cases_eq}
use Rattle.std.proofs.lemmas.Nat.{div-add-mod'}
use Rattle.std.proofs.lemmas.List.Elements.{All-get_or, All-from_get_or, All-weaker}
use Rattle.lattice_theory.specs.Affine.{Affine}
use Rattle.cayley_theory.specs.Bases.{HaveParts}
use Rattle.base_counts.specs.Counting.{set_at, count_at, IsCounted, IsAddedAt}
use Rattle.base_counts.specs.Visited.{AreWithin, HasBaseOn, IsFar, IsTightAt}
use Rattle.base_counts.proofs.Visited.{base_from, base_to, far_from}
use Rattle.dilate_counts.specs.Classes.{IsTotal, IsClear, StayLow, IsCountedAt, AreTotalsRaised}
use Rattle.dilate_counts.proofs.Totals.{totals_classed, totals_with, clear_with, still_clear, stay_low}

-- counts that stay
pub same_low : (counts : List ℕ) → StayLow counts counts
same_low counts left low = All-weaker (λ count. count + suc left ≤ 4194304) (λ count. count + left ≤ 4194304) (λ count b. omega (arith, b)) counts low

-- counts that are added to at one degree
pub added_low : (rows : List (List ℕ)) (words : List ℕ) (degree : ℕ) (old new : List ℕ) → IsAddedAt rows words degree old new
    → length old ≡ length rows * 7 → length new ≡ length old → StayLow old new
added_low rows words degree old new added whole same left low = All-from_get_or (λ count. count + left ≤ 4194304) new 0 at
  where
    was : (k l : ℕ) → k < length rows → l < 7 → count_at old k l + suc left ≤ 4194304
    was k l h m = All-get_or (λ count. count + suc left ≤ 4194304) old (k * 7 + l) 0 (omega (arith, h, m, whole)) low

    at_set : (k l : ℕ) → k < length rows → l < 7 → count_at new k l + left ≤ 4194304
    at_set k l h m = by (cases_eq l degree)
      where
        here : IsCounted (set_at rows k) words (count_at old k degree) (count_at new k degree) → count_at old k degree + suc left ≤ 4194304
            → count_at new k degree + left ≤ 4194304
        here (inl c) b = let e = c.1 in omega (arith, e, b)
        here (inr c) b = let e = c.1 in omega (arith, e, b)

        by : (l ≡ degree) ⊎ (l ≡ degree → ⊥) → count_at new k l + left ≤ 4194304
        by (inl e) = subst (λ (d : ℕ). count_at new k d + left ≤ 4194304) (sym e)
            (here (added.counted k h) (subst (λ (d : ℕ). count_at old k d + suc left ≤ 4194304) e (was k l h m)))
        by (inr d) = let e = added.others k l h m d in let b = was k l h m in omega (arith, e, b)

    at : (i : ℕ) → i < length new → get_or new i 0 + left ≤ 4194304
    at i h =
        let set : i / 7 < length rows = omega (arith, h, whole, same) in
        let degree : i % 7 < 7 = omega arith in
        subst (λ (j : ℕ). get_or new j 0 + left ≤ 4194304) (div-add-mod' i 7) (at_set (i / 7) (i % 7) set degree)

-- a class that was found or made leaves the numbers and what is behind the classes
module _ (rows : List (List ℕ)) (words : List ℕ) (classes now : List (List ℕ)) (seen counts : List ℕ) where
  pub with_class : (now ≡ classes) ⊎ (now ≡ classes ++ words ∷ []) → (width k l v : ℕ) → AreWithin width rows → IsClear classes seen → k < length rows
      → IsTotal rows classes seen counts k l v → IsTotal rows now seen counts k l v
  with_class (inl e) width k l v few clear h t = subst (λ (c : List (List ℕ)). IsTotal rows c seen counts k l v) (sym e) t
  with_class (inr e) width k l v few clear h t =
      subst (λ (c : List (List ℕ)). IsTotal rows c seen counts k l v) (sym e) (totals_with rows words 0 classes seen counts words width k l v few clear h t)

  pub clear_class : (now ≡ classes) ⊎ (now ≡ classes ++ words ∷ []) → IsClear classes seen → IsClear now seen
  clear_class (inl e) clear = subst (λ (c : List (List ℕ)). IsClear c seen) (sym e) clear
  clear_class (inr e) clear = subst (λ (c : List (List ℕ)). IsClear c seen) (sym e) (clear_with rows words 0 classes seen counts words clear)

  -- so a point that is counted in it raises the numbers
  module _ (degree place : ℕ) (small : degree < 7) (within : place < length now) (is : set_at now place ≡ words)
      (made : (now ≡ classes) ⊎ (now ≡ classes ++ words ∷ [])) (room : place * 7 + degree < length seen) where
    abbrev pub after : List ℕ
    after = slice_set seen (place * 7 + degree) (get_or seen (place * 7 + degree) 0 + 1)

    pub class_raised : (width : ℕ) → AreWithin width rows → IsClear classes seen → AreTotalsRaised rows words degree classes seen counts now after counts
    class_raised width few clear k l v h m t =
        totals_classed rows words degree now seen counts place within is small room width few k l v h m (with_class made width k l v few clear h t)

    pub class_clear : IsClear classes seen → IsClear now after
    class_clear clear = still_clear rows words degree now seen counts place within is small room (clear_class made clear)

    pub class_low : StayLow seen after
    class_low = stay_low rows words degree now seen counts place within is small room

-- numbers that are raised for the words of a point's vectors count the point, and a point whose degree isn't told apart changes none
module _ (n r : ℕ) (vs : List Affine) (haves : HaveParts n r vs) (x : List ℤ) (dimension : length x ≡ n) (rows : List (List ℕ)) where
  pub point_raised : (degree : ℕ) (words : List ℕ) (classes now : List (List ℕ)) (seen next counts new : List ℕ) → IsTightAt r vs x degree words
      → AreWithin (length vs) rows → AreTotalsRaised rows words degree classes seen counts now next new
      → (k l v : ℕ) → k < length rows → l < 7 → IsTotal rows classes seen counts k l v
      → (HasBaseOn r vs rows k l x × IsTotal rows now next new k l (suc v)) ⊎ ((HasBaseOn r vs rows k l x → ⊥) × IsTotal rows now next new k l v)
  point_raised degree words classes now seen next counts new at within raised k l v h m t = by (raised k l v h m t)
    where
      by : (IsCountedAt rows words degree k l × IsTotal rows now next new k l (suc v))
          ⊎ ((IsCountedAt rows words degree k l → ⊥) × IsTotal rows now next new k l v)
          → (HasBaseOn r vs rows k l x × IsTotal rows now next new k l (suc v)) ⊎ ((HasBaseOn r vs rows k l x → ⊥) × IsTotal rows now next new k l v)
      by (inl c) = inl (base_from n r vs haves x dimension rows degree words at within k l h c.0, c.1)
      by (inr c) = inr ((λ b. c.0 (base_to n r vs haves x dimension rows degree words at within k l h b)), c.1)

  pub point_passed : (classes : List (List ℕ)) (seen counts : List ℕ) → IsFar r vs x → (k l v : ℕ) → k < length rows → l < 7
      → IsTotal rows classes seen counts k l v
      → (HasBaseOn r vs rows k l x × IsTotal rows classes seen counts k l (suc v)) ⊎ ((HasBaseOn r vs rows k l x → ⊥) × IsTotal rows classes seen counts k l v)
  point_passed classes seen counts far k l v h m t = inr (far_from n r vs haves x dimension rows far k l m, t)
