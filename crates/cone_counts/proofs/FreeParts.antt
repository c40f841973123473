-- The parts that have no vector in a set are those in whose masks the set is.
use Rattle.std.proofs.Common.{get_or, ◌≡◌, ◌≢◌, ◌⊎◌, inl, inr, ℕ, ◌+◌, ◌==◌, ◌<◌, ◌≤◌, Bool, true, false, not, ◌||◌, List, [], ◌∷◌, ◌++◌, length, refl, sym, ap}
use Rattle.std.proofs.Common.{◌∙◌, subst, arith}
use Rattle.std.proofs.Math.Seq.{get_or-append_seam}
use Rattle.std.proofs.lemmas.Bool.{cases_lt, eqb-true, eq-eqb, cases_Bool}
use Rattle.std.proofs.lemmas.List.{get_or_append_left, length-append}
use Rattle.lattice_theory.specs.Affine.{Affine}
use Rattle.face_theory.specs.Sets.{in_set}
use Rattle.face_theory.specs.Pairings.{function_at}
use Rattle.face_theory.proofs.Sets.{true_false, Fails, fails_or_all, implied, not_implied}
use Rattle.bit_pool.specs.Bits.{bit_of, HasBit, IsSubset}
use Rattle.face_closing.specs.Words.{set_of}
use Rattle.face_poset.proofs.ListedFaces.{in_set_of, set_of_in}
use Rattle.incidence.specs.Incidences.{HasExactly}
use Rattle.incidence.proofs.SmallValues.{function_is}
use Rattle.cayley_theory.specs.Bases.{part_in, AreFreeParts}
use Rattle.base_counts.specs.Counting.{set_at}
use Rattle.cone_counts.specs.CountSteps.{other_part, AreMasks, TellsWithin, IsWithinNumber}

-- a truth value and its negation
negated : (b : Bool) → not b ≡ true → b ≡ true → ⊥
negated true e f = true_false e refl
negated false e f = true_false f refl

not_negated : (b : Bool) → not b ≡ false → b ≡ true
not_negated true e = refl
not_negated false e = absurd (true_false refl e)

apart : (a b : ℕ) → (a ≡ b → ⊥) → not (a == b) ≡ true
apart a b d = by (cases_Bool (a == b))
  where
    by : ((a == b) ≡ true) ⊎ ((a == b) ≡ false) → not (a == b) ≡ true
    by (inl e) = absurd (d (eqb-true a b e))
    by (inr e) = ap not e

-- whether a vector that is read is of another part
module _ (vs : List Affine) (part i : ℕ) (g : Affine) (e : g ≡ get_or vs i g) (l : i < length vs) where
  read : function_at vs i ≡ g
  read = sym (function_is vs i g e l)

  pub other_from : part_in g ≢ part → other_part vs part i ≡ true
  other_from d = apart (part_in (function_at vs i)) part (λ h. d (ap part_in (sym read) ∙ h))

  pub other_to : other_part vs part i ≡ true → part_in g ≢ part
  other_to t h = negated (part_in (function_at vs i) == part) t (eq-eqb (part_in (function_at vs i)) part (ap part_in read ∙ h))

module _ (vs : List Affine) (words parts : ℕ) where
  pub no_masks : AreMasks vs words 0 []
  no_masks = record { many = refl; long = λ j l. absurd (omega (arith, l)); bits = λ j l. absurd (omega (arith, l)) }

  pub one_more_mask : (masks : List (List ℕ)) (row : List ℕ) → AreMasks vs words parts masks → length row ≡ words
      → HasExactly (length vs) (other_part vs parts) row → AreMasks vs words (parts + 1) (masks ++ row ∷ [])
  one_more_mask masks row a e exact = record {
    many = length-append masks (row ∷ []) ∙ ap (λ (n : ℕ). n + 1) a.many;
    long = λ j l. each (λ i x. length x ≡ words) (λ i k. a.long i k) e j l;
    bits = λ j l. each (λ i x. HasExactly (length vs) (other_part vs i) x) (λ i k. a.bits i k) exact j l;
  }
    where
      each : (P : ℕ → List ℕ → Type 0) → ((j : ℕ) → j < parts → P j (set_at masks j)) → P parts row → (j : ℕ) → j < parts + 1 → P j (set_at (masks ++ row ∷ []) j)
      each P h last j l = by (cases_lt j parts)
        where
          by : (j < parts) ⊎ (parts ≤ j) → P j (set_at (masks ++ row ∷ []) j)
          by (inl k) = subst (P j) (sym (get_or_append_left masks (row ∷ []) [] j (subst (λ (n : ℕ). j < n) (sym a.many) k))) (h j k)
          by (inr k) =
              let i : parts ≡ j = omega (arith, k, l) in
              subst (λ (n : ℕ). P n (set_at (masks ++ row ∷ []) n)) i
              (subst (P parts) (sym (subst (λ (n : ℕ). set_at (masks ++ row ∷ []) n ≡ row) a.many (get_or-append_seam masks row [] []))) last)

  module _ (masks : List (List ℕ)) (a : AreMasks vs words parts masks) (set : List ℕ) (below : (number : ℕ) → length vs ≤ number → HasBit set number → ⊥) where
    -- within the mask of a part no vector of the set is of it
    none_of : (j : ℕ) → j < parts → IsSubset set (set_at masks j) → (i : ℕ) → HasBit set i → part_in (function_at vs i) ≢ j
    none_of j l s i b e = negated (part_in (function_at vs i) == j) ((a.bits j l i).0 (s i b)).1 (eq-eqb (part_in (function_at vs i)) j e)

    -- and otherwise some vector is
    test : ℕ → ℕ → Bool
    test j i = not (bit_of set i == 1) || other_part vs j i

    some_of : (j : ℕ) → j < parts → (IsSubset set (set_at masks j) → ⊥)
        → (i : ℕ) × (in_set (set_of (length vs) set) i ≡ true) × (part_in (function_at vs i) ≡ j)
    unfolding test
    some_of j l none = by (fails_or_all (length vs) (test j))
      where
        by : Fails (length vs) (test j) ⊎ ((i : ℕ) → i < length vs → test j i ≡ true)
            → (i : ℕ) × (in_set (set_of (length vs) set) i ≡ true) × (part_in (function_at vs i) ≡ j)
        by (inl f) = let p = not_implied (bit_of set f.place == 1) (other_part vs j f.place) f.fails in (
          f.place,
          in_set_of (length vs) set f.place f.within (eqb-true (bit_of set f.place) 1 p.0),
          eqb-true (part_in (function_at vs f.place)) j (not_negated (part_in (function_at vs f.place) == j) p.1),
        )
        by (inr h) = absurd (none (λ number b. at number b (cases_lt number (length vs))))
          where
            at : (number : ℕ) → HasBit set number → (number < length vs) ⊎ (length vs ≤ number) → HasBit (set_at masks j) number
            at number b (inl k) = (a.bits j l number).1 (k, implied (bit_of set number == 1) (other_part vs j number) (h number k) (eq-eqb (bit_of set number) 1 b))
            at number b (inr k) = absurd (below number k b)

    pub free_parts : (count : ℕ) (w : IsWithinNumber set masks count) → AreFreeParts parts vs (set_of (length vs) set) w.within
    free_parts count w = record { width = w.width ∙ a.many; is_free = is_free; is_taken = is_taken }
      where
        told : (j : ℕ) → j < parts → TellsWithin set (set_at masks j) (in_set w.within j)
        told j l = w.tells j (subst (λ (n : ℕ). j < n) (sym a.many) l)

        is_free : (j : ℕ) → j < parts → in_set w.within j ≡ true → (i : ℕ) → in_set (set_of (length vs) set) i ≡ true → part_in (function_at vs i) ≢ j
        is_free j l e i t = none_of j l (subst (TellsWithin set (set_at masks j)) e (told j l)) i (set_of_in (length vs) set i t).1

        is_taken : (j : ℕ) → j < parts → in_set w.within j ≡ false
            → (i : ℕ) × (in_set (set_of (length vs) set) i ≡ true) × (part_in (function_at vs i) ≡ j)
        is_taken j l e = some_of j l (subst (TellsWithin set (set_at masks j)) e (told j l))
