-- Faces of a relation with their ranks have an order along which ranks rise.
use Rattle.std.proofs.Common.{◌≡◌, ℕ, zero, suc, ◌+◌, ◌<◌, ◌≤◌, true, false, not, ◌⊎◌, inl, inr, List, [], length, sym, ap, ◌∙◌, arith}
use Rattle.std.proofs.lemmas.Bool.{and_parts, not-true}
use Rattle.std.proofs.lemmas.List.Elements.{All-get_or}
use Rattle.std.specs.List.{Contains, range_with_len}
use Rattle.lattice_theory.proofs.Members.{In, here, there, in_from_contains}
use Rattle.face_theory.specs.Sets.{IsPart, is_part}
use Rattle.face_theory.specs.Faces.{TightRelation, IsFace, IsRank}
use Rattle.face_theory.specs.Ranks.{RankedFace}
use Rattle.face_theory.proofs.Sets.{is_part-true, part-true, same_from_parts, true_false}
use Rattle.face_theory.proofs.Heights.{rank_rises_lem}
use Rattle.polynomial_theory.proofs.LowPowers.{large_or_not}
use Rattle.polynomial_theory.specs.Series.{Series}
use Rattle.stringy_theory.specs.CountedFaces.{HasRisingRanks}
use Rattle.stringy_theory.specs.RankedTables.{ranked_at, IsRankedTable, numbered_faces}
use Rattle.stringy_theory.specs.Laws.{RankedTableSuffices}

-- the numbers from a on are below a + n
in_range : (a n x : ℕ) → In x (range_with_len a n) → x < a + n
in_range a zero x i = elim i [ ]
in_range a (suc n) x here = omega arith
in_range a (suc n) x (there i) = let l = in_range (a + 1) n x i in omega arith

pub number_within : (n x : ℕ) → Contains (range_with_len 0 n) x → x < n
number_within n x c = let l = in_range 0 n x (in_from_contains (range_with_len 0 n) c) in omega arith

module _ (R : TightRelation) (table : List RankedFace) (r : IsRankedTable R table) where
  face : (i : ℕ) → i < length table → IsFace R (ranked_at table i).set
  face i l = All-get_or (λ (f : RankedFace). IsFace R f.set) table i (record { set = []; rank = 0 }) l r.faces

  ranked : (i : ℕ) → i < length table → IsRank R (ranked_at table i).set (ranked_at table i).rank
  ranked i l = All-get_or (λ (f : RankedFace). IsRank R f.set f.rank) table i (record { set = []; rank = 0 }) l r.ranks

  width : (i j : ℕ) → i < length table → j < length table → length (ranked_at table i).set ≡ length (ranked_at table j).set
  width i j l m = (face i l).width ∙ sym (face j m).width

  same_number : (i j : ℕ) → i < length table → j < length table → (ranked_at table i).set ≡ (ranked_at table j).set → i ≡ j
  same_number i j l m e = first (large_or_not i j)
    where
      second : (j < i) ⊎ (i ≤ j) → j ≤ i → i ≡ j
      second (inl k) n = absurd (r.once j i (record { set = []; rank = 0 }) k l (sym e))
      second (inr k) n = omega arith

      first : (i < j) ⊎ (j ≤ i) → i ≡ j
      first (inl k) = absurd (r.once i j (record { set = []; rank = 0 }) k m e)
      first (inr k) = second (large_or_not j i) k

  part : (i j : ℕ) → is_part (ranked_at table i).set (ranked_at table j).set ≡ true → IsPart (ranked_at table i).set (ranked_at table j).set
  part i j b = is_part-true (ranked_at table i).set (ranked_at table j).set b

  is_below : (i j : ℕ) → i < length table → j < length table → IsPart (ranked_at table i).set (ranked_at table j).set
      → is_part (ranked_at table i).set (ranked_at table j).set ≡ true
  is_below i j l m p = part-true (ranked_at table i).set (ranked_at table j).set (width i j l m) p

  rising : (i j : ℕ) → i < length table → j < length table → is_part (ranked_at table i).set (ranked_at table j).set ≡ true
      → is_part (ranked_at table j).set (ranked_at table i).set ≡ false
      → (ranked_at table i).rank < (ranked_at table j).rank
  rising i j l m b n = (rank_rises_lem R (ranked_at table i).set (ranked_at table j).set (ranked_at table i).rank (ranked_at table j).rank (face i l) (face j m)
      (part i j b, λ e. true_false (ap (λ s. is_part s (ranked_at table i).set) (sym e) ∙ is_below i i l l (λ k t. t)) n) (ranked i l) (ranked j m)).0

  pub ranked_table_suffices_at : (top : ℕ) (l l_dual : ℕ → Series) → HasRisingRanks (numbered_faces table top l l_dual)
  ranked_table_suffices_at top l l_dual = record {
    reflexive = λ x i. is_below x x (number_within (length table) x i) (number_within (length table) x i) (λ k t. t);
    antisymmetric = λ x y i j b c. same_number x y (number_within (length table) x i) (number_within (length table) y j)
        (same_from_parts (ranked_at table x).set (ranked_at table y).set (width x y (number_within (length table) x i) (number_within
        (length table) y j)) (part x y b) (part y x c));
    transitive = λ x y z i j k b c. is_below x z (number_within (length table) x i) (number_within (length table) z k) (λ n t. part y z c n (part x y b n t));
    rises = λ x y i j s. let e = and_parts (is_part (ranked_at table x).set (ranked_at table y).set) (not (is_part (ranked_at table y).set (ranked_at table x).set)) s
        in rising x y (number_within (length table) x i) (number_within (length table) y j) e.0 (not-true (is_part (ranked_at table y).set (ranked_at table x).set) e.1);
  }

pub ranked_table_suffices_lem : RankedTableSuffices
ranked_table_suffices_lem R table r = ranked_table_suffices_at R table r
