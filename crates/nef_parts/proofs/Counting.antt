-- A step from one nef partition to the next, as a step through the list of all.
use Rattle.std.specs.Prelude.{ℤ, pos}
use Rattle.std.proofs.Common.{◌≡◌, ℕ, ◌+◌, true, false, List, [], ◌∷◌, ◌++◌, length, map, refl, sym, ap, ◌∙◌, subst, length-append, append_assoc}
use Rattle.std.proofs.lemmas.List.{length-map}
use Rattle.lattice_theory.specs.Order.{LexLess}
use Rattle.lattice_theory.specs.Grid.{LexAtMost, IsNext, behind, up_to}
use Rattle.lattice_theory.proofs.Unique.{no_member}
use Rattle.lattice_theory.proofs.LexPlaces.{not_at_most}
use Rattle.lattice_theory.proofs.LexWalks.{AreUpTo, none_before, one_more, next_found, all_found, found_first, up_to_lists, up_to_unique}
use Rattle.walk_theory.specs.Walks.{NumbersLess}
use Rattle.nef_parts.specs.Lists.{PairLists}
use Rattle.nef_parts.specs.Partitions.{IsNefOf, IsNefVector, AreNefPartitions, IsNefAt, HasNefPartitions}
use Rattle.nef_parts.specs.Listing.{partitions, given_of}
use Rattle.nef_parts.specs.steps.Completions.{AtMost, IsNextList}

module _ (l : PairLists) (r : ℕ) (all : AreNefPartitions l r (partitions l r)) where
  abbrev Nef : List ℤ → Type 0
  Nef = IsNefVector l r

  abbrev n : ℕ
  n = length l.normals

  columns : (z : List ℤ) → Nef z → length z ≡ n
  columns z v = sym (ap (λ (y : List ℤ). length y) v.is) ∙ (length-map v.parts pos ∙ v.nef.count)

  vector : (parts : List ℕ) → IsNefOf l r parts → Nef (map pos parts)
  vector parts nef = record { parts = parts; is = refl; nef = nef }

  -- the next list, as integers
  as_next : (old new : List ℕ) → IsNextList (IsNefOf l r) old new → IsNext Nef (map pos old) (map pos new)
  as_next old new next = record {
    holds = vector new next.holds;
    later = next.later;
    first = λ z v h. subst (LexAtMost (map pos new)) v.is (next.first v.parts v.nef (subst (LexLess (map pos old)) (sym v.is) h));
  }

  found : (old : List ℕ) → IsNefOf l r old → AreUpTo Nef (map pos old) (up_to (map pos old) (partitions l r))
  found old nef = up_to_lists Nef n columns (map pos old) (partitions l r) (columns (map pos old) (vector old nef)) all

  -- one more is given
  pub more_given : (old new : List ℕ) → IsNefOf l r old → IsNextList (IsNefOf l r) old new → given_of l r true new ≡ given_of l r true old + 1
  unfolding given_of
  more_given old new nef next =
      let front = up_to (map pos old) (partitions l r) in
      let longer = next_found Nef n columns (map pos old) (map pos new) front (columns (map pos old) (vector old nef)) (found old nef)
      (as_next old new next) in
      ap (λ (zs : List (List ℤ)). length zs) (up_to_unique Nef (map pos new) (up_to (map pos new) (partitions l r)) (front ++ map pos new ∷ [])
      (found new next.holds) longer) ∙ length-append front (map pos new ∷ [])

  -- and that is the next one
  pub next_given : (old new : List ℕ) → IsNefOf l r old → IsNextList (IsNefOf l r) old new → IsNefAt l r (given_of l r true old) new
  unfolding given_of
  next_given old new nef next =
      let front = up_to (map pos old) (partitions l r) in
      let rest = behind (map pos new) (partitions l r) in
      let longer = next_found Nef n columns (map pos old) (map pos new) front (columns (map pos old) (vector old nef)) (found old nef)
      (as_next old new next) in
      let split = found_first Nef n columns (map pos new) (front ++ map pos new ∷ []) (partitions l r)
      (columns (map pos new) (vector new next.holds)) longer all in
      record {
        before = front;
        after = rest;
        are_partitions = subst (AreNefPartitions l r) (split ∙ append_assoc front (map pos new ∷ []) rest) all;
        count = refl;
      }

  -- where none comes later, all are given
  pub all_given : (old : List ℕ) → IsNefOf l r old → ((z : List ℕ) → IsNefOf l r z → NumbersLess old z → ⊥)
      → HasNefPartitions l r (given_of l r true old)
  unfolding given_of
  all_given old nef none = record {
    members = up_to (map pos old) (partitions l r);
    are_partitions = all_found Nef n columns (map pos old) (up_to (map pos old) (partitions l r)) (columns (map pos old) (vector old nef))
        (found old nef) (λ z v h. none v.parts v.nef (subst (LexLess (map pos old)) (sym v.is) h));
    count_is = refl;
  }

  -- the first one
  first_found : (new : List ℕ) → IsNefOf l r new → ((z : List ℕ) → IsNefOf l r z → AtMost new z) → AreUpTo Nef (map pos new) (map pos new ∷ [])
  first_found new nef first =
      one_more Nef (map pos new) [] (none_before Nef (map pos new)
      (λ z v h. not_at_most z (map pos new) h (subst (LexAtMost (map pos new)) v.is (first v.parts v.nef)))) (vector new nef)

  pub one_given : (new : List ℕ) → IsNefOf l r new → ((z : List ℕ) → IsNefOf l r z → AtMost new z) → given_of l r true new ≡ 1
  unfolding given_of
  one_given new nef first =
      ap (λ (zs : List (List ℤ)). length zs) (up_to_unique Nef (map pos new) (up_to (map pos new) (partitions l r)) (map pos new ∷ [])
      (found new nef) (first_found new nef first))

  pub first_given : (new : List ℕ) → IsNefOf l r new → ((z : List ℕ) → IsNefOf l r z → AtMost new z) → IsNefAt l r 0 new
  first_given new nef first =
      let split = found_first Nef n columns (map pos new) (map pos new ∷ []) (partitions l r) (columns (map pos new) (vector new nef))
      (first_found new nef first) all in
      record {
        before = [];
        after = behind (map pos new) (partitions l r);
        are_partitions = subst (AreNefPartitions l r) split all;
        count = refl;
      }

  -- there is none
  pub none_given : ((z : List ℕ) → IsNefOf l r z → ⊥) → HasNefPartitions l r 0
  none_given none = record {
    members = [];
    are_partitions = record { ascends = tt; members = λ z. ((λ c. absurd (no_member z c)), (λ v. absurd (none v.parts v.nef))) };
    count_is = refl;
  }

-- at first none is given
pub nothing_given : (l : PairLists) (r : ℕ) (last : List ℕ) → given_of l r false last ≡ 0
unfolding given_of
nothing_given l r last = refl
