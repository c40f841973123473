-- A sum that is taken face by face is the sum over the faces of a level.
use Rattle.std.specs.Prelude.{sum_by, eqb, true, false}
use Rattle.std.proofs.Common.{◌≡◌, ◌≢◌, ◌⊎◌, inl, inr, ⊎_elim, ℕ, zero, suc, ◌+◌, ◌*◌, ◌<◌, ◌≤◌, Bool, List, [], ◌∷◌, length, map, refl, sym, ◌∙◌, subst, arith, AllPairs, Contains}
use Rattle.std.proofs.Math.Nat.{mul-le-mul_left, mul-le-mul_right}
use Rattle.std.proofs.lemmas.Bool.{cases_lt}
use Rattle.std.proofs.lemmas.Bool.Decides.{eqb_tells}
use Rattle.std.proofs.lemmas.List.Sums.{sum_by-cons}
use Rattle.std.proofs.lemmas.List.Kept.{AllPairs-cons}
use Rattle.lattice_theory.proofs.Members.{here, there, Each, empty, more, all_from_each, each_weaker, contains_from_in, in_from_contains}
use Rattle.face_theory.specs.Faces.{TightRelation, IsFace, IsRank, IsCorank}
use Rattle.face_theory.proofs.Heights.{rank_is_unique_lem, corank_is_unique_lem}
use Rattle.face_theory.proofs.FaceLists.{rank_exists_lem, corank_exists_lem}
use Rattle.face_poset.specs.Faces.{TableState, face_at}
use Rattle.batyrev_theory.specs.FaceSums.{CountedFace, IsFaceSum}
use Rattle.dual_pair.specs.Polytopes.{PolytopeState}
use Rattle.dual_pair.specs.Faces.{on_facets, AreFacesOf}
use Rattle.dual_pair.specs.Interiors.{set_in}
use Rattle.dual_pair.proofs.Insides.{face_is, one_face}
use Rattle.batyrev.specs.Levels.{IsTaken, IsSumTo, none, one_more, IsOn, IsLevelSum}
use Rattle.batyrev.specs.declared.coranks.Level.{Level}
use Rattle.batyrev.specs.declared.coranks.Level.TheVariants as levels
use Rattle.batyrev.proofs.FacesBetween.{place_in}

-- whether a face is on a level
on_rank : (R : TightRelation) (x : List Bool) (r : ℕ) → IsFace R x → IsRank R x r ⊎ (IsRank R x r → ⊥)
on_rank R x r f = by (rank_exists_lem R x f)
  where
    by : (k : ℕ) × IsRank R x k → IsRank R x r ⊎ (IsRank R x r → ⊥)
    by h = ⊎_elim (λ (d : (eqb h.0 r) ≡ true × (h.0 ≡ r)). inl (subst (IsRank R x) d.1 h.1))
        (λ (d : (eqb h.0 r) ≡ false × (h.0 ≢ r)). inr (λ i. d.1 (rank_is_unique_lem R x h.0 r h.1 i))) (eqb_tells h.0 r)

on_corank : (R : TightRelation) (x : List Bool) (c : ℕ) → IsFace R x → IsCorank R x c ⊎ (IsCorank R x c → ⊥)
on_corank R x c f = by (corank_exists_lem R x f)
  where
    by : (k : ℕ) × IsCorank R x k → IsCorank R x c ⊎ (IsCorank R x c → ⊥)
    by h = ⊎_elim (λ (d : (eqb h.0 c) ≡ true × (h.0 ≡ c)). inl (subst (IsCorank R x) d.1 h.1))
        (λ (d : (eqb h.0 c) ≡ false × (h.0 ≢ c)). inr (λ i. d.1 (corank_is_unique_lem R x h.0 c h.1 i))) (eqb_tells h.0 c)

decided : (p : PolytopeState) (level : Level) (x : List Bool) → IsFace (on_facets p) x → IsOn p level x ⊎ (IsOn p level x → ⊥)
decided p (levels.Rank rank) x f = on_rank (on_facets p) x rank f
decided p levels.Facet x f = on_corank (on_facets p) x 1 f
decided p levels.Ridge x f = on_corank (on_facets p) x 2 f

module _ (p : PolytopeState) (table : TableState) (t : AreFacesOf p table) (level : Level) (N : List Bool → ℕ → Type 0) (number : ℕ → ℕ)
    (numbers : (k : ℕ) → k < length table.faces → N (set_in p (face_at table.faces k)) (number k)) where
  abbrev S : ℕ → List Bool
  S k = set_in p (face_at table.faces k)

  -- the set is that of one of the first faces
  abbrev IsEarly : ℕ → List Bool → Type 0
  IsEarly j x = (k : ℕ) × (k < j) × (x ≡ S k)

  later : (j : ℕ) (x : List Bool) → IsEarly j x → IsEarly (suc j) x
  later j x e = (e.0, (let l = e.1 in omega arith), e.2)

  -- the faces of the level among the first ones, with their numbers
  record FirstSum (j s : ℕ) : Type 0 where
    faces : List CountedFace
    once : AllPairs (λ a b. a.set ≢ b.set) faces
    each : Each (λ c. IsFace (on_facets p) c.set × IsOn p level c.set × N c.set c.number) faces
    early : Each (λ c. IsEarly j c.set) faces
    all : (k : ℕ) → k < j → IsOn p level (S k) → Contains (map (λ c. c.set) faces) (S k)
    sum : sum_by (λ c. c.number) faces ≡ s

  one_face_more : (j s taken next : ℕ) → suc j ≤ length table.faces → IsTaken (IsOn p level (S j)) (number j) taken → next ≡ s + taken
      → FirstSum j s → FirstSum (suc j) next
  one_face_more j s taken next l k e r = add (decided p level (S j) face)
    where
      within : j < length table.faces
      within = omega arith

      face : IsFace (on_facets p) (S j)
      face = (face_is p table t j within).is_face

      apart : (x : List Bool) → IsEarly j x → S j ≢ x
      apart x early same =
          let m = early.1 in
          let one = one_face p table t j early.0 within (omega (arith, m, within)) (same ∙ early.2) in
          omega (arith, m, one)

      entry : CountedFace
      entry = record { set = S j; number = number j }

      add : IsOn p level (S j) ⊎ (IsOn p level (S j) → ⊥) → FirstSum (suc j) next
      add (inl on) = record {
        faces = entry ∷ r.faces;
        once = AllPairs-cons (λ a b. a.set ≢ b.set) entry r.faces
            (all_from_each {P = λ b. S j ≢ b.set} (each_weaker (λ c early. apart c.set early) r.early)) r.once;
        each = more (face, on, numbers j within) r.each;
        early = more (j, omega arith, refl) (each_weaker (λ c. later j c.set) r.early);
        all = λ k m q. ⊎_elim
            (λ (h : k < j). contains_from_in (there (in_from_contains (map (λ (c : CountedFace). c.set) r.faces) (r.all k h q))))
            (λ (h : j ≤ k). let one : j ≡ k = omega (arith, h, m) in
            subst (λ (i : ℕ). Contains (map (λ c. c.set) (entry ∷ r.faces)) (S i)) one (contains_from_in here))
            (cases_lt k j);
        sum = let a = sum_by-cons (λ (c : CountedFace). c.number) entry r.faces in let b = r.sum in let d = k.all on in omega arith;
      }
      add (inr off) = record {
        faces = r.faces;
        once = r.once;
        each = r.each;
        early = each_weaker (λ c. later j c.set) r.early;
        all = λ i m q. ⊎_elim (λ (h : i < j). r.all i h q)
            (λ (h : j ≤ i). let one : i ≡ j = omega (arith, h, m) in absurd (off (subst (λ (n : ℕ). IsOn p level (S n)) one q)))
            (cases_lt i j);
        sum = let b = r.sum in let d = k.nothing off in omega arith;
      }

  first : (j s : ℕ) → j ≤ length table.faces → IsSumTo (λ k. IsOn p level (S k)) number j s → FirstSum j s
  first zero s l none = record {
    faces = [];
    once = λ i k d m n. absurd (omega arith);
    each = empty;
    early = empty;
    all = λ k m q. absurd (omega arith);
    sum = refl;
  }
  first (suc j) next l (one_more s taken _ before k e) = one_face_more j s taken next l k e (first j s (omega arith) before)

  pub level_sum : (s : ℕ) → IsLevelSum p level table.faces number (length table.faces) s → IsFaceSum (on_facets p) (IsOn p level) N s
  level_sum s h = let f = first (length table.faces) s (omega arith) h in record {
    faces = f.faces;
    once = f.once;
    each = all_from_each {P = λ c. IsFace (on_facets p) c.set × IsOn p level c.set × N c.set c.number} f.each;
    all = λ x face on. let q = place_in p table t x face in
        subst (Contains (map (λ c. c.set) f.faces)) q.is (f.all q.place q.within (subst (IsOn p level) (sym q.is) on));
    sum = f.sum;
  }

-- what is taken of one face more
pub level_more : (P : ℕ → Type 0) (number : ℕ → ℕ) (j s taken : ℕ) → IsSumTo P number j s → IsTaken (P j) (number j) taken
    → IsSumTo P number (j + 1) (s + taken)
level_more P number j s taken before t =
    let next : suc j ≡ j + 1 = omega arith in
    subst (λ (n : ℕ). IsSumTo P number n (s + taken)) next (one_more s taken (s + taken) before t refl)

pub product_small : (a b : ℕ) → a < 65536 → b < 65536 → a * b ≤ 4294967296
product_small a b h k =
    let x = mul-le-mul_right {m = a} {n = 65536} b (omega (arith, h)) in
    let y = mul-le-mul_left {m = b} {n = 65536} 65536 (omega (arith, k)) in
    omega (arith, x, y)
