-- The sets of a table's faces, as they are kept.
use Rattle.std.proofs.Common.{◌≡◌, ◌⊎◌, inl, inr, ℕ, suc, ◌+◌, ◌<◌, ◌≤◌, List, [], ◌∷◌, ◌++◌, length, take, replicate, true, refl, sym, ap, ◌∙◌, subst, arith}
use Rattle.std.proofs.Math.Seq.{get_or-append_seam}
use Rattle.std.proofs.lemmas.Bool.{cases_lt}
use Rattle.std.proofs.lemmas.List.{get_or_append_left, length-append, length-replicate}
use Rattle.bit_pool.specs.Bits.{HasBit}
use Rattle.incidence.proofs.Bits.{none_at_first}
use Rattle.face_poset.specs.Faces.{FaceState, face_at}
use Rattle.base_counts.specs.Counting.{set_at}
use Rattle.dual_pair.specs.declared.side.Side.{Side}
use Rattle.cone_counts.specs.CountSteps.{words_on, AreFirstSets, AreFaceSets}
use Rattle.cone_counts.proofs.SideSets.{taken_bit}

module _ (side : Side) (faces : List FaceState) (words : ℕ) where
  pub no_sets : AreFirstSets side faces words 0 []
  no_sets = record { many = refl; long = λ i l. absurd (omega (arith, l)); face = λ i l. absurd (omega (arith, l)) }

  module _ (k : ℕ) (rows : List (List ℕ)) (a : AreFirstSets side faces words k rows) (w : List ℕ) where
    earlier : (i : ℕ) → i < k → set_at (rows ++ w ∷ []) i ≡ set_at rows i
    earlier i l = get_or_append_left rows (w ∷ []) [] i (subst (λ (n : ℕ). i < n) (sym a.many) l)

    last : set_at (rows ++ w ∷ []) k ≡ w
    last = subst (λ (n : ℕ). set_at (rows ++ w ∷ []) n ≡ w) a.many (get_or-append_seam rows w [] [])

    one_more : length (rows ++ w ∷ []) ≡ k + 1
    one_more = length-append rows (w ∷ []) ∙ ap (λ (n : ℕ). n + 1) a.many

    last_place : (i : ℕ) → i < k + 1 → k ≤ i → k ≡ i
    last_place i l m = omega (arith, l, m)

    all_long : length w ≡ words → (i : ℕ) → i < k + 1 → length (set_at (rows ++ w ∷ []) i) ≡ words
    all_long e i l = by (cases_lt i k)
      where
        by : (i < k) ⊎ (k ≤ i) → length (set_at (rows ++ w ∷ []) i) ≡ words
        by (inl m) = ap length (earlier i m) ∙ a.long i m
        by (inr m) = subst (λ (j : ℕ). length (set_at (rows ++ w ∷ []) j) ≡ words) (last_place i l m) (ap length last ∙ e)

    pub one_more_set : length w ≡ words → w ≡ take words (words_on side (face_at faces k)) → AreFirstSets side faces words (k + 1) (rows ++ w ∷ [])
    one_more_set e is = record { many = one_more; long = all_long e; face = face }
      where
        face : (i : ℕ) → i < k + 1 → set_at (rows ++ w ∷ []) i ≡ take words (words_on side (face_at faces i))
        face i l = by (cases_lt i k)
          where
            by : (i < k) ⊎ (k ≤ i) → set_at (rows ++ w ∷ []) i ≡ take words (words_on side (face_at faces i))
            by (inl m) = earlier i m ∙ a.face i m
            by (inr m) = subst (λ (j : ℕ). set_at (rows ++ w ∷ []) j ≡ take words (words_on side (face_at faces j))) (last_place i l m) (last ∙ is)

    pub empty_last : length w ≡ words → k ≡ length faces → ((number : ℕ) → HasBit w number → ⊥) → AreFaceSets side faces words (rows ++ w ∷ [])
    empty_last e all none = record {
      many = one_more ∙ (let h : k + 1 ≡ suc (length faces) = omega (arith, all) in h);
      long = λ i l. all_long e i (subst (λ (n : ℕ). i < n) one_more l);
      face = λ i l. earlier i (omega (arith, all, l)) ∙ a.face i (omega (arith, all, l));
      last = λ number b. none number (subst (λ (row : List ℕ). HasBit row number) (subst (λ (n : ℕ). set_at (rows ++ w ∷ []) n ≡ w) all last) b);
    }

-- words that are 0 tell no number
pub zeros_tell_none : (n z many : ℕ) → z ≡ 0 → many ≤ n → (number : ℕ) → HasBit (take many (replicate n z)) number → ⊥
zeros_tell_none n z many e l number b =
    let none = ((none_at_first n z (λ i. true) e number).0
    (taken_bit (replicate n z) many number (subst (λ (k : ℕ). many ≤ k) (sym (length-replicate n z)) l) b)).0 in
    omega (arith, none)
