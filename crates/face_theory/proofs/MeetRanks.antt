-- The rank of a face from the ranks of what it has in common with single rows.
use Rattle.std.proofs.Common.{◌≡◌, ◌≢◌, ◌⊎◌, inl, inr, ℕ, suc, ◌<◌, ◌≤◌, Bool, true, false, List, [], ◌∷◌, length, sym, ap, ◌∙◌, subst, arith}
use Rattle.std.proofs.lemmas.Bool.{cases_Bool, and_parts, and_from}
use Rattle.lattice_theory.proofs.Members.{more, each_from_all}
use Rattle.face_theory.specs.Sets.{in_set, IsPart, IsProperPart, common, is_same}
use Rattle.face_theory.specs.Chains.{IsChainFrom}
use Rattle.face_theory.specs.Faces.{TightRelation, IsFace, IsRank}
use Rattle.face_theory.specs.Meets.{function_row, IsOverMeets}
use Rattle.face_theory.specs.Laws.{RankByMeets}
use Rattle.face_theory.proofs.Sets.{true_false, in_set_width, in_set-numbers_with, in_set-common, is_same-true, is_same_refl, missing}
use Rattle.face_theory.proofs.Meets.{faces_are_meets_lem, meet_face}
use Rattle.face_theory.proofs.Separations.{separated}

-- what a face has in common with a row is a face
pub common_face : (R : TightRelation) (face : List Bool) (f : ℕ) → IsFace R face → f < R.functions → IsFace R (common face (function_row R f))
common_face R face f fa l =
    let m = (faces_are_meets_lem R face).0 fa in
    subst (λ (x : List Bool). IsFace R (common x (function_row R f))) (sym m.is)
    (meet_face R (f ∷ m.chosen) (more l (each_from_all (λ g. g < R.functions) m.chosen m.first)))

-- and a part of it
pub common_part : (a b : List Bool) → IsPart (common a b) a
common_part a b i h = (and_parts (in_set a i) (in_set b i) (sym (in_set-common a b i) ∙ h)).0

-- a face strictly within another is within what that one has in common with some row, which is less
record IsWithinMeet (R : TightRelation) (face small : List Bool) (f : ℕ) : Type 0 where
  range : f < R.functions
  part : IsPart small (common face (function_row R f))
  less : common face (function_row R f) ≢ face

within_meet : (R : TightRelation) (face small : List Bool) → IsFace R face → IsFace R small → IsProperPart small face
    → (f : ℕ) × IsWithinMeet R face small f
within_meet R face small fa fs p =
    let m = missing small face (fs.width ∙ sym fa.width) p in
    let l : m.0 < R.members = subst (λ (k : ℕ). m.0 < k) fa.width (in_set_width face m.0 m.1.in_large) in
    let s = separated R small fs m.0 l m.1.not_in_small in (
      s.0,
      record {
        range = s.1.within;
        part = λ i h. in_set-common face (function_row R s.0) i ∙ and_from (in_set face i) (in_set (function_row R s.0) i) (p.0 i h)
            (in_set-numbers_with R.members (λ k. R.tight k s.0) i (subst (λ (k : ℕ). i < k) fs.width (in_set_width small i h)) ∙ s.1.tight i h);
        less = λ e. true_false (sym (in_set-numbers_with R.members (λ k. R.tight k s.0) m.0 l)
            ∙ (and_parts (in_set face m.0) (in_set (function_row R s.0) m.0)
            (sym (in_set-common face (function_row R s.0) m.0) ∙ ap (λ (x : List Bool). in_set x m.0) e ∙ m.1.in_large)).1) s.1.apart;
      },
    )

-- so a chain is no longer than the number
chain_within : (R : TightRelation) (face : List Bool) (k : ℕ) → IsFace R face → IsOverMeets R face k → (chain : List (List Bool))
    → IsChainFrom (IsFace R) IsProperPart face chain → length chain ≤ k
chain_within R face k fa h [] c = omega arith
chain_within R face k fa h (y ∷ ys) c =
    let w = within_meet R face y fa c.0 c.1 in
    let a = h.above w.0 w.1.range w.1.less in
    by w.0 a.0 a.1 a.2 w.1.part (cases_Bool (is_same y (common face (function_row R w.0))))
  where
    by : (f j : ℕ) → IsRank R (common face (function_row R f)) j → j < k → IsPart y (common face (function_row R f))
        → (is_same y (common face (function_row R f)) ≡ true) ⊎ (is_same y (common face (function_row R f)) ≡ false) → length (y ∷ ys) ≤ k
    by f j r l p (inl e) =
        let s = is_same-true y (common face (function_row R f)) e in
        let m = r.most ys (subst (λ (x : List Bool). IsChainFrom (IsFace R) IsProperPart x ys) s c.2) in
        omega arith
    by f j r l p (inr n) =
        let d : y ≢ common face (function_row R f) = λ e. true_false (subst (λ (x : List Bool). is_same y x ≡ true) e (is_same_refl y)) n in
        let m = r.most (y ∷ ys) (c.0, (p, d), c.2) in
        omega arith

pub rank_by_meets_lem : RankByMeets
rank_by_meets_lem R face k fa h = by h.reached
  where
    by : (k ≡ 0) ⊎ ((f : ℕ) × (f < R.functions) × (common face (function_row R f) ≢ face)
        × ((j : ℕ) × IsRank R (common face (function_row R f)) j × (k ≡ suc j))) → IsRank R face k
    by (inl e) = record { longest = []; length_is = sym e; is_chain = tt; most = chain_within R face k fa h }
    by (inr (f, l, n, (j, r, e))) = record {
      longest = common face (function_row R f) ∷ r.longest;
      length_is = let q = r.length_is in omega arith;
      is_chain = (common_face R face f fa l, (common_part face (function_row R f), n), r.is_chain);
      most = chain_within R face k fa h;
    }
