-- The numbers of a table's faces have an order along which ranks rise.
use Rattle.std.proofs.Common.{◌≡◌, ◌≢◌, ◌⊎◌, inl, inr, ⊎_elim, ◌↔◌, IsTrue, ℕ, ◌*◌, ◌<◌, ◌≤◌, Bool, true, false, not, ◌==◌, List, length, sym, ap, ◌∙◌, subst, arith}
use Rattle.std.proofs.lemmas.Bool.{cases_lt, and_parts, not-true}
use Rattle.std.proofs.lemmas.List.Elements.{All-get_or}
use Rattle.bit_pool.specs.Bits.{bit_of, HasBit, IsSubset, words_for}
use Rattle.bit_pool.proofs.Sets.{no_bit_beyond}
use Rattle.face_theory.specs.Sets.{in_set, IsPart}
use Rattle.face_theory.specs.Faces.{TightRelation, IsRank}
use Rattle.face_theory.proofs.Sets.{true_false, same_test, is_part-true, part-true, length-numbers_with}
use Rattle.face_theory.proofs.Heights.{rank_rises_lem, rank_is_unique_lem}
use Rattle.face_closing.specs.Words.{set_of}
use Rattle.face_poset.specs.Faces.{TableState, no_face, face_at, ComesBefore, IsFaceOf, IsTableOf}
use Rattle.face_poset.proofs.ListedFaces.{in_set_of, set_of_in}
use Rattle.polynomial_theory.specs.Series.{Series}
use Rattle.stringy_theory.specs.CountedFaces.{HasRisingRanks}
use Rattle.stringy_theory.proofs.RankedTables.{number_within}
use Rattle.poset_g.specs.Numbered.{set_at, counted, numbered, HasAllFaces}
use Rattle.poset_g.specs.Laws.{RanksRise}

module _ (R : TightRelation) (table : TableState) (t : IsTableOf R table) where
  S : ℕ → List Bool
  S k = set_of R.members (face_at table.faces k).members

  a_face : (k : ℕ) → k < length table.faces → IsFaceOf table R (face_at table.faces k)
  a_face k l = All-get_or (λ face. IsFaceOf table R face) table.faces k no_face l t.are_faces

  -- words within words are sets within sets, both those of the relation's members and those of all numbers
  pub subset_at : (x y : ℕ) → x < length table.faces → (numbered table).below x y ≡ true → IsSubset (face_at table.faces x).members (face_at table.faces y).members
  subset_at x y l b n h = by (cases_lt n (64 * words_for table.members))
    where
      part : IsPart (set_at table x) (set_at table y)
      part = is_part-true (set_at table x) (set_at table y) b

      by : (n < 64 * words_for table.members) ⊎ (64 * words_for table.members ≤ n) → HasBit (face_at table.faces y).members n
      by (inl m) = (set_of_in (64 * words_for table.members) (face_at table.faces y).members n
          (part n (in_set_of (64 * words_for table.members) (face_at table.faces x).members n m h))).1
      by (inr m) = absurd (no_bit_beyond (face_at table.faces x).members n (let e = (a_face x l).members_tell.many in omega arith) h)

  pub below_at : (x y : ℕ) → IsSubset (face_at table.faces x).members (face_at table.faces y).members → (numbered table).below x y ≡ true
  below_at x y s = part-true (set_at table x) (set_at table y)
      (length-numbers_with (64 * words_for table.members) (λ i. bit_of (face_at table.faces x).members i == 1)
      ∙ sym (length-numbers_with (64 * words_for table.members) (λ i. bit_of (face_at table.faces y).members i == 1)))
      (λ i h. let q = set_of_in (64 * words_for table.members) (face_at table.faces x).members i h in
      in_set_of (64 * words_for table.members) (face_at table.faces y).members i q.0 (s i q.1))

  part_of : (x y : ℕ) → IsSubset (face_at table.faces x).members (face_at table.faces y).members → IsPart (S x) (S y)
  unfolding S
  part_of x y s i h = let q = set_of_in R.members (face_at table.faces x).members i h in in_set_of R.members (face_at table.faces y).members i q.0 (s i q.1)

  bit_from : (x y n : ℕ) → y < length table.faces → S x ≡ S y → HasBit (face_at table.faces y).members n → HasBit (face_at table.faces x).members n
  unfolding S
  bit_from x y n l e b =
      let m : n < R.members = ⊎_elim (λ (h : n < R.members). h) (λ (h : R.members ≤ n). absurd ((a_face y l).members_tell.below n h b)) (cases_lt n R.members) in
      (set_of_in R.members (face_at table.faces x).members n
      (subst (λ (s : List Bool). in_set s n ≡ true) (sym e) (in_set_of R.members (face_at table.faces y).members n m b))).1

  rising : (x y : ℕ) → x < length table.faces → y < length table.faces → IsSubset (face_at table.faces x).members (face_at table.faces y).members
      → (S x ≢ S y) → (face_at table.faces x).rank < (face_at table.faces y).rank
  unfolding S
  rising x y l m s n = (rank_rises_lem R (S x) (S y) (face_at table.faces x).rank (face_at table.faces y).rank (a_face x l).is_face (a_face y m).is_face
      (part_of x y s, n) (a_face x l).rank_is (a_face y m).rank_is).0

  same_rank : (x y : ℕ) → x < length table.faces → y < length table.faces → S x ≡ S y → (face_at table.faces x).rank ≡ (face_at table.faces y).rank
  unfolding S
  same_rank x y l m e = rank_is_unique_lem R (S x) (face_at table.faces x).rank (face_at table.faces y).rank (a_face x l).rank_is
      (subst (λ (s : List Bool). IsRank R s (face_at table.faces y).rank) (sym e) (a_face y m).rank_is)

  -- what is within doesn't stand behind
  pub not_behind : (x y : ℕ) → x < length table.faces → y < length table.faces → (numbered table).below x y ≡ true → x ≤ y
  not_behind x y l m b = by (cases_lt y x)
    where
      s : IsSubset (face_at table.faces x).members (face_at table.faces y).members
      s = subset_at x y l b

      clash : ComesBefore (face_at table.faces y) (face_at table.faces x) → ⊥
      clash (inl h) = let r = rising x y l m s (λ e. let f = same_rank x y l m e in less (face_at table.faces y).rank (face_at table.faces x).rank h f) in
          both (face_at table.faces y).rank (face_at table.faces x).rank h r
        where
          less : (a b : ℕ) → a < b → b ≡ a → ⊥
          less a b h e = omega arith

          both : (a b : ℕ) → a < b → b < a → ⊥
          both a b h g = omega arith
      clash (inr h) = let r = rising x y l m s (λ e. (h.1).missing (bit_from x y (h.1).first m e (h.1).here)) in
          same (face_at table.faces y).rank (face_at table.faces x).rank h.0 r
        where
          same : (a b : ℕ) → a ≡ b → b < a → ⊥
          same a b e g = omega arith

      by : (y < x) ⊎ (x ≤ y) → x ≤ y
      by (inl h) = absurd (clash (t.ascending y x no_face h l))
      by (inr h) = h

  -- ranks ascend
  pub ranks_ascend : (x y : ℕ) → x ≤ y → y < length table.faces → (face_at table.faces x).rank ≤ (face_at table.faces y).rank
  ranks_ascend x y l m = by (cases_lt x y)
    where
      after : ComesBefore (face_at table.faces x) (face_at table.faces y) → (face_at table.faces x).rank ≤ (face_at table.faces y).rank
      after (inl h) = omega arith
      after (inr h) = let e = h.0 in omega arith

      by : (x < y) ⊎ (y ≤ x) → (face_at table.faces x).rank ≤ (face_at table.faces y).rank
      by (inl h) = after (t.ascending x y no_face h m)
      by (inr h) = let e = ap (λ (i : ℕ). (face_at table.faces i).rank) (same x y l h) in omega arith
        where
          same : (x y : ℕ) → x ≤ y → y ≤ x → x ≡ y
          same x y l h = omega arith

  rise : (x y : ℕ) → x < length table.faces → y < length table.faces → (numbered table).below x y ≡ true → (numbered table).below y x ≡ false
      → (face_at table.faces x).rank < (face_at table.faces y).rank
  rise x y l m b n = rising x y l m (subset_at x y l b)
      (λ e. true_false (below_at y x (λ i h. bit_from x y i m e h)) n)

  pub ranks_rise_at : (top : ℕ) (l l_dual : ℕ → Series) → HasRisingRanks (counted table top l l_dual)
  ranks_rise_at top l l_dual = record {
    reflexive = λ x i. below_at x x (λ n h. h);
    antisymmetric = λ x y i j b c. same x y (not_behind x y (number_within (length table.faces) x i) (number_within (length table.faces) y j) b)
        (not_behind y x (number_within (length table.faces) y j) (number_within (length table.faces) x i) c);
    transitive = λ x y z i j k b c. below_at x z (λ n h. subset_at y z (number_within (length table.faces) y j) c n
        (subset_at x y (number_within (length table.faces) x i) b n h));
    rises = λ x y i j s. let e = and_parts ((numbered table).below x y) (not ((numbered table).below y x)) s in
        rise x y (number_within (length table.faces) x i) (number_within (length table.faces) y j) e.0 (not-true ((numbered table).below y x) e.1);
  }
    where
      same : (x y : ℕ) → x ≤ y → y ≤ x → x ≡ y
      same x y h k = omega arith

-- whether one is below another, as the table tells
pub told_below : (table : TableState) → HasAllFaces table → (x y : ℕ) (b : Bool) → x < length table.faces
    → IsTrue b ↔ IsSubset (face_at table.faces x).members (face_at table.faces y).members → b ≡ (numbered table).below x y
told_below table h x y b l t = same_test b ((numbered table).below x y) (λ e. below_at h.0 table h.1 x y (t.0 e)) (λ e. t.1 (subset_at h.0 table h.1 x y l e))

pub ranks_rise_lem : RanksRise
ranks_rise_lem table h = ranks_rise_at h.0 table h.1
