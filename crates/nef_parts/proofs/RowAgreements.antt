-- What the rows of candidates and beginnings say of agreement, and so of nef partitions.
use Rattle.std.specs.Prelude.{ℤ}
use Rattle.std.specs.List.{All, Contains}
use Rattle.std.proofs.Common.{◌≡◌, ◌⊎◌, inl, inr, ℕ, suc, ◌+◌, ◌<◌, ◌≤◌, List, [], ◌∷◌, length, get_or, refl, sym, ◌∙◌, subst, arith}
use Rattle.std.proofs.lemmas.Bool.{cases_lt}
use Rattle.std.proofs.lemmas.List.{get_or_default}
use Rattle.std.proofs.lemmas.List.Elements.{All-contains, Contains-get_or}
use Rattle.lattice_theory.proofs.Members.{In, here, there, in_from_contains}
use Rattle.nef_theory.specs.Nef.{IsGrowthList, IsNefPartition}
use Rattle.nef_theory.specs.Reflexive.{AreAtLeastMinusOne}
use Rattle.nef_theory.specs.Agreement.{StaysLow, Agrees, AgreesInside, HasAgreeing}
use Rattle.nef_theory.proofs.Agreements.{nef_by_agreement_lem, agreement_splits_lem}
use Rattle.nef_parts.specs.declared.masks.Candidate.{Candidate}
use Rattle.nef_parts.specs.declared.masks.VertexMask.{VertexMask}
use Rattle.nef_parts.specs.declared.beginnings.Beginning.{Beginning}
use Rattle.nef_parts.specs.steps.Rows.{IsTightRow, vector_at}
use Rattle.nef_parts.specs.steps.Tables.{IsCandidate, IsMask, AreMasks}
use Rattle.nef_parts.specs.steps.Beginnings.{row_of, IsBeginning}
use Rattle.nef_parts.specs.steps.Agreeing.{RowsAgree, SomeAgrees, AllAgree, AgreesAt}
use Rattle.nef_parts.specs.steps.Completions.{AgreesOn}

-- the place of a member
pub place_in : (xs : List (List ℤ)) (x : List ℤ) → In x xs → (p : ℕ) × ((p < length xs) × (get_or xs p [] ≡ x))
place_in [] x i = elim i [ ]
place_in (_ ∷ xs) x here = (0, (omega arith, refl))
place_in (y ∷ xs) x (there i) = let r = place_in xs x i in (suc r.0, (omega (arith, r.1.0), r.1.1))

module _ (n : ℕ) (normals points : List (List ℤ)) (least : AreAtLeastMinusOne n normals points) (m : List ℤ) (mask : VertexMask)
    (is : IsMask normals points m mask) (b : List ℕ) (g : Beginning) (begins : IsBeginning b g) (i : ℕ) (part : i < 3) where
  -- a candidate that agrees with all part numbers is a point that does
  pub candidate_agrees : length b ≡ length normals → (c : Candidate) → Contains mask.candidates.items c
      → RowsAgree mask.tight (row_of g.parts i) g.told c.tight → Agrees normals (length normals) b m i (vector_at points c.place)
  candidate_agrees whole c member rows =
      let cand = All-contains (IsCandidate normals points m) mask.candidates.items c is.sound member in
      let x = vector_at points c.place in
      (agreement_splits_lem normals (length normals) b m i x (λ e h. ((least x).0 (Contains-get_or points c.place [] cand.within)).1 e h)).1 (
        cand.low,
        record {
          own = λ e h t p. ((cand.row e).0 (rows.at_own e ((begins.parts i part e).1 (omega (arith, h, whole), p)) ((is.tight e).1 (h, t)))).1;
          inside = λ e h t. ((begins.parts i part e).0 (rows.only_own e ((cand.row e).1 (h, t)) ((begins.told e).1 (omega (arith, h, whole))))).1;
        },
      )

  pub some_agreeing : length b ≡ length normals → SomeAgrees mask g i → HasAgreeing normals points (length normals) b m i
  some_agreeing whole s =
      let cand = All-contains (IsCandidate normals points m) mask.candidates.items s.0 is.sound s.1.0 in
      record {
        point = vector_at points s.0.place;
        member = Contains-get_or points s.0.place [] cand.within;
        agrees = candidate_agrees whole s.0 s.1.0 s.1.1;
      }

  -- where a point agrees with a longer list, a candidate agrees with its beginning
  pub agreeing_some : (c : List ℕ) → length b ≤ length normals → AgreesOn (length b) b c → HasAgreeing normals points (length normals) c m i
      → SomeAgrees mask g i
  agreeing_some c shorter alike a =
      let split = (agreement_splits_lem normals (length normals) c m i a.point (λ e h. ((least a.point).0 a.member).1 e h)).0 a.agrees in
      let at = place_in points a.point (in_from_contains points a.member) in
      let stays = subst (StaysLow normals (length normals) m) (sym at.1.1) split.0 in
      let has = is.whole at.0 at.1.0 stays in
      let cand = All-contains (IsCandidate normals points m) mask.candidates.items has.0 is.sound has.1.0 in
      let row : IsTightRow (length normals) normals a.point has.0.tight = subst (λ (x : List ℤ). IsTightRow (length normals) normals x has.0.tight)
      (subst (λ (p : ℕ). vector_at points p ≡ a.point) (sym has.1.1) at.1.1) cand.row in
      (has.0, (has.1.0, rows has.0 row split.1))
    where
      rows : (d : Candidate) → IsTightRow (length normals) normals a.point d.tight → AgreesInside normals (length normals) c m i a.point
          → RowsAgree mask.tight (row_of g.parts i) g.told d.tight
      rows d row inside = record {
        at_own = λ e o t.
            let p = (begins.parts i part e).0 o in
            let v = (is.tight e).0 t in
            (row e).1 (v.0, inside.own e v.0 v.1 (alike e p.0 ∙ p.1));
        only_own = λ e r t.
            let v = (row e).0 r in
            let l = (begins.told e).0 t in
            (begins.parts i part e).1 (l, sym (alike e l) ∙ inside.inside e v.0 v.1);
      }

-- some member of a list that has a place
pub filled : (masks : List VertexMask) (v : ℕ) → v < length masks → VertexMask
filled [] v h = absurd (omega arith)
filled (mask ∷ masks) v h = mask

module _ (n : ℕ) (vertices normals points : List (List ℤ)) (least : AreAtLeastMinusOne n normals points) (masks : List VertexMask)
    (are : AreMasks (length vertices) vertices normals points masks) (r : ℕ) (few : r ≤ 3) (b : List ℕ) (g : Beginning)
    (begins : IsBeginning b g) where
  -- a whole list with which candidates agree for all vertices and parts is a nef partition
  pub agreeing_is_nef : length b ≡ length normals → g.used ≡ r → AllAgree masks g r → IsNefPartition n vertices normals r b
  agreeing_is_nef whole used all = (nef_by_agreement_lem n vertices normals points r b least).1 (record {
    count = whole;
    growth = subst (λ (k : ℕ). IsGrowthList k b) used begins.growth;
    agreeing = λ m c i h.
        let at = place_in vertices m (in_from_contains vertices c) in
        let l : at.0 < length masks = omega (arith, at.1.0, are.count) in
        let d = filled masks at.0 l in
        subst (λ (x : List ℤ). HasAgreeing normals points (length normals) b x i) at.1.1
        (some_agreeing n normals points least (vector_at vertices at.0) (get_or masks at.0 d) (are.are at.0 d l) b g begins i (omega (arith, h, few))
        whole (all at.0 d l i h));
  })

  -- with the beginning of a nef partition they do
  pub nef_agrees : (c : List ℕ) → length b ≤ length normals → AgreesOn (length b) b c → IsNefPartition n vertices normals r c → AllAgree masks g r
  nef_agrees c shorter alike nef v d l i h =
      let points_agree = (nef_by_agreement_lem n vertices normals points r c least).0 nef in
      let member = Contains-get_or vertices v [] (omega (arith, l, are.count)) in
      agreeing_some n normals points least (vector_at vertices v) (get_or masks v d) (are.are v d l) b g begins i (omega (arith, h, few))
      c shorter alike (points_agree.agreeing (vector_at vertices v) member i h)

-- the candidate at a place agrees
pub some_at : (mask : VertexMask) (g : Beginning) (i j own : ℕ) (cs : List Candidate) → cs ≡ mask.candidates.items → own ≡ row_of g.parts i
    → AgreesAt cs mask.tight own g.told j → SomeAgrees mask g i
some_at mask g i j own cs e f at =
    let d : Candidate = record { place = 0; tight = 0 } in
    let x = get_or cs j d in (
      x,
      (
        subst (λ (ds : List Candidate). Contains ds x) e (Contains-get_or cs j d at.within),
        subst (λ (o : ℕ). RowsAgree mask.tight o g.told x.tight) f (at.agrees d),
      ),
    )

-- no candidate agrees
pub none_at : (mask : VertexMask) (g : Beginning) (i own : ℕ) (cs : List Candidate) → cs ≡ mask.candidates.items → own ≡ row_of g.parts i
    → All (λ c. RowsAgree mask.tight own g.told c.tight → ⊥) cs → SomeAgrees mask g i → ⊥
none_at mask g i own cs e f none s =
    All-contains (λ c. RowsAgree mask.tight own g.told c.tight → ⊥) cs s.0 none (subst (λ (ds : List Candidate). Contains ds s.0) (sym e) s.1.0)
    (subst (λ (o : ℕ). RowsAgree mask.tight o g.told s.0.tight) (sym f) s.1.1)

-- one part more
pub next_part : (mask : VertexMask) (g : Beginning) (i : ℕ) → ((k : ℕ) → k < i → SomeAgrees mask g k) → SomeAgrees mask g i
    → (k : ℕ) → k < i + 1 → SomeAgrees mask g k
next_part mask g i before at_i k h = by (cases_lt k i)
  where
    by : (k < i) ⊎ (i ≤ k) → SomeAgrees mask g k
    by (inl l) = before k l
    by (inr m) = let same : i ≡ k = omega arith in subst (SomeAgrees mask g) same at_i

-- one vertex more
pub next_vertex : (masks : List VertexMask) (g : Beginning) (r v : ℕ) (m : VertexMask) → v < length masks → m ≡ get_or masks v m
    → ((u : ℕ) (d : VertexMask) → u < v → (i : ℕ) → i < r → SomeAgrees (get_or masks u d) g i) → ((i : ℕ) → i < r → SomeAgrees m g i)
    → (u : ℕ) (d : VertexMask) → u < v + 1 → (i : ℕ) → i < r → SomeAgrees (get_or masks u d) g i
next_vertex masks g r v m within is before at_v u d h i l = by (cases_lt u v)
  where
    by : (u < v) ⊎ (v ≤ u) → SomeAgrees (get_or masks u d) g i
    by (inl k) = before u d k i l
    by (inr k) =
        let same : v ≡ u = omega arith in
        subst (λ (j : ℕ). SomeAgrees (get_or masks j d) g i) same
        (subst (λ (mask : VertexMask). SomeAgrees mask g i) (is ∙ get_or_default masks v m d within) (at_v i l))
