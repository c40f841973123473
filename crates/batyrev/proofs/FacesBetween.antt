-- Faces of corank 1 and 2, by the faces of a table that are between a face and the whole.
use Rattle.std.proofs.Common.{◌≡◌, ◌≢◌, inl, inr, ⊎_elim, ◌↔◌, ℕ, suc, ◌+◌, ◌<◌, ◌≤◌, Bool, true, false, List, [], ◌∷◌, length, map, refl, sym, ap, ◌∙◌, subst, arith}
use Rattle.std.proofs.lemmas.Bool.{cases_lt}
use Rattle.lattice_theory.proofs.Members.{In, here, there, in_from_contains}
use Rattle.lattice_theory.proofs.Sublists.{IsImage, from_map}
use Rattle.bit_pool.specs.Bits.{IsSubset}
use Rattle.face_theory.specs.Sets.{in_set, numbers_with, IsPart, IsProperPart, IsProperWhole}
use Rattle.face_theory.specs.Chains.{IsChainFrom}
use Rattle.face_theory.specs.Faces.{TightRelation, IsFace, IsCorank}
use Rattle.face_theory.proofs.Sets.{true_false, in_set_width, in_set-numbers_with, length-numbers_with, same_from_parts}
use Rattle.face_theory.proofs.Heights.{rank_rises_lem}
use Rattle.face_poset.specs.Faces.{FaceState, TableState, no_face, face_at, ComesBefore}
use Rattle.face_poset.proofs.ListedFaces.{in_set_of, set_of_in}
use Rattle.dual_pair.specs.Polytopes.{PolytopeState}
use Rattle.dual_pair.specs.Faces.{on_facets, AreFacesOf}
use Rattle.dual_pair.specs.Interiors.{set_in}
use Rattle.dual_pair.proofs.Insides.{face_is, one_face}

-- the place of a member
place_of : {face : FaceState} {faces : List FaceState} → In face faces → (i : ℕ) × (i < length faces) × (face_at faces i ≡ face)
place_of here = (0, omega arith, refl)
place_of (there i) = let p = place_of i in (suc p.0, let l = p.1 in omega arith, p.2)

module _ (p : PolytopeState) (table : TableState) (t : AreFacesOf p table) where
  abbrev pub R : TightRelation
  R = on_facets p

  abbrev pub S : ℕ → List Bool
  S k = set_in p (face_at table.faces k)

  abbrev pub count : ℕ
  count = length table.faces

  a_face : (k : ℕ) → k < count → IsFace R (S k)
  a_face k l = (face_is p table t k l).is_face

  -- the face of the table that a face is
  pub record Place (x : List Bool) : Type 0 where
    pub place : ℕ
    pub within : place < count
    pub is : S place ≡ x

  pub place_in : (x : List Bool) → IsFace R x → Place x
  place_in x f = by (from_map (λ (face : FaceState). set_in p face) table.faces
      (in_from_contains (map (λ face. set_in p face) table.faces) (t.faces.all x f)))
    where
      by : IsImage (λ (face : FaceState). set_in p face) table.faces x → Place x
      by i = let q = place_of i.member in record { place = q.0; within = q.1; is = ap (set_in p) q.2 ∙ sym i.is }

  -- words are within words where sets are within sets
  pub part_of : (j k : ℕ) → j < count → k < count → IsSubset (face_at table.faces j).members (face_at table.faces k).members → IsPart (S j) (S k)
  part_of j k l m s i h =
      let q = set_of_in (length p.vertices) (face_at table.faces j).members i h in
      in_set_of (length p.vertices) (face_at table.faces k).members i q.0 (s i q.1)

  pub subset_of : (j k : ℕ) → j < count → k < count → IsPart (S j) (S k) → IsSubset (face_at table.faces j).members (face_at table.faces k).members
  subset_of j k l m w i b =
      let n : i < length p.vertices = ⊎_elim (λ (h : i < length p.vertices). h)
      (λ (h : length p.vertices ≤ i). absurd ((face_is p table t j l).members_tell.below i h b)) (cases_lt i (length p.vertices)) in
      (set_of_in (length p.vertices) (face_at table.faces k).members i
      (w i (in_set_of (length p.vertices) (face_at table.faces j).members i n b))).1

  -- a larger face stands behind
  no_larger : (a b : FaceState) → ComesBefore a b → a.rank ≤ b.rank
  no_larger a b (inl h) = omega arith
  no_larger a b (inr h) = let e = h.0 in omega arith

  pub behind : (j k : ℕ) → j < count → k < count → IsProperPart (S j) (S k) → j < k
  behind j k l m w = ⊎_elim (λ (h : j < k). h) (λ (h : k ≤ j). absurd (⊎_elim
      (λ (g : k < j).
      let order = no_larger (face_at table.faces k) (face_at table.faces j) (t.faces.ascending k j no_face g l) in
      let up = (rank_rises_lem R (S j) (S k) (face_at table.faces j).rank (face_at table.faces k).rank (a_face j l) (a_face k m) w
      (face_is p table t j l).rank_is (face_is p table t k m).rank_is).0 in
      clash (face_at table.faces k).rank (face_at table.faces j).rank order up)
      (λ (g : j ≤ k). let e : j ≡ k = omega arith in w.1 (ap S e))
      (cases_lt k j)))
      (cases_lt j k)
    where
      clash : (a b : ℕ) → a ≤ b → b < a → ⊥
      clash a b h g = omega arith

  -- the whole is a face, and each face is a part of it
  abbrev pub whole : List Bool
  whole = numbers_with (length p.vertices) (λ i. true)

  all_in : (i : ℕ) → i < length p.vertices → in_set whole i ≡ true
  all_in i l = in_set-numbers_with (length p.vertices) (λ n. true) i l

  whole_is_face : IsFace R whole
  whole_is_face = record {
    width = length-numbers_with (length p.vertices) (λ i. true);
    closed = λ m l. (λ h f k tight. tight m h, λ h. all_in m l);
  }

  in_whole : (x : List Bool) → IsFace R x → IsPart x whole
  in_whole x f i h = all_in i (subst (λ (n : ℕ). i < n) f.width (in_set_width x i h))

  nothing_above : (x : List Bool) → IsFace R x → IsProperPart whole x → ⊥
  nothing_above x f w = w.1 (same_from_parts whole x (whole_is_face.width ∙ sym f.width) w.0 (in_whole x f))

  -- it stands last
  pub last_is : (k : ℕ) → k + 1 ≡ count → S k ≡ whole
  last_is k e = by (place_in whole whole_is_face)
    where
      l : k < count
      l = omega arith

      by : Place whole → S k ≡ whole
      by q = ⊎_elim
          (λ (h : q.place < k).
          let part = subst (IsPart (S k)) (sym q.is) (in_whole (S k) (a_face k l)) in
          let other : S k ≢ S q.place = λ g. let same = one_face p table t k q.place l q.within g in omega (arith, h, same) in
          let b = behind k q.place l q.within (part, other) in
          absurd (omega (arith, h, b)))
          (λ (h : k ≤ q.place). let w = q.within in let same : k ≡ q.place = omega (arith, e, h, w) in ap S same ∙ q.is)
          (cases_lt q.place k)

  module _ (last : ℕ) (e : last + 1 ≡ count) where
    -- the whole is above each other face
    below_whole : (k : ℕ) → k < last → IsProperPart (S k) whole
    below_whole k l = (
      in_whole (S k) (a_face k (omega arith)),
      λ g. let same = one_face p table t k last (omega arith) (omega arith) (g ∙ sym (last_is last e)) in omega (arith, l, same),
    )

    -- no face is above the last one
    above_last : (x : List Bool) → IsFace R x → IsProperPart (S last) x → ⊥
    above_last x f w = nothing_above x f (subst (λ (y : List Bool). IsProperPart y x) (last_is last e) w)

    -- what is above a face and below another one is between it and the whole
    record Between (k : ℕ) (x : List Bool) : Type 0 where
      place : ℕ
      after : k < place
      before : place < last
      is : S place ≡ x
      subset : IsSubset (face_at table.faces k).members (face_at table.faces place).members

    between : (k : ℕ) (x y : List Bool) → k < count → IsFace R x → IsProperPart (S k) x → IsFace R y → IsProperPart x y → Between k x
    between k x y l f w g v = by (place_in x f)
      where
        by : Place x → Between k x
        by q =
            let up = subst (IsProperPart (S k)) (sym q.is) w in
            let within = q.within in
            record {
              place = q.place;
              after = behind k q.place l q.within up;
              before = ⊎_elim (λ (h : q.place < last). h)
                  (λ (h : last ≤ q.place). let same : q.place ≡ last = omega (arith, e, h, within) in
                  absurd (above_last y g (subst (λ (j : ℕ). IsProperPart (S j) y) same (subst (λ (z : List Bool). IsProperPart z y) (sym q.is) v))))
                  (cases_lt q.place last);
              is = q.is;
              subset = subset_of k q.place l q.within up.0;
            }

    -- what stands between is above
    is_above : (j k : ℕ) → k < j → j < last → IsSubset (face_at table.faces k).members (face_at table.faces j).members → IsProperPart (S k) (S j)
    is_above j k l m s = (
      part_of k j (omega arith) (omega arith) s,
      λ g. let same = one_face p table t k j (omega arith) (omega arith) g in omega (arith, l, same),
    )

    -- no face between: corank 1
    pub facet_yes : (k : ℕ) → k < last
        → ((j : ℕ) → k < j → j < last → IsSubset (face_at table.faces k).members (face_at table.faces j).members → ⊥) → IsCorank R (S k) 1
    facet_yes k l none = record { longest = whole ∷ []; length_is = refl; is_chain = (whole_is_face, below_whole k l, tt); most = most }
      where
        two : (x y : List Bool) → IsFace R x → IsProperPart (S k) x → IsFace R y → IsProperPart x y → ⊥
        two x y f w g v = let b = between k x y (omega arith) f w g v in none b.place b.after b.before b.subset

        most : (other : List (List Bool)) → IsChainFrom (IsFace R) IsProperWhole (S k) other → length other ≤ 1
        most [] c = omega arith
        most (x ∷ []) c = omega arith
        most (x ∷ y ∷ rest) c = absurd (two x y c.0 c.1 c.2.0 c.2.1)

    -- and the other way round
    pub facet_no : (k j : ℕ) → IsCorank R (S k) 1 → k < j → j < last → IsSubset (face_at table.faces k).members (face_at table.faces j).members → ⊥
    facet_no k j c l m s = let long = c.most (S j ∷ whole ∷ []) (a_face j (omega arith), is_above j k l m s, (whole_is_face, below_whole j m, tt)) in
        two long
      where
        two : 2 ≤ 1 → ⊥
        two h = omega (arith, h)

    some_above : (n : ℕ) → IsCorank R (S last) (suc n) → ⊥
    some_above n c = by c.longest c.length_is c.is_chain
      where
        by : (chain : List (List Bool)) → length chain ≡ suc n → IsChainFrom (IsFace R) IsProperWhole (S last) chain → ⊥
        by [] h d = absurd (omega (arith, h))
        by (x ∷ rest) h d = above_last x d.0 d.1

    pub facet_last : IsCorank R (S last) 1 → ⊥
    facet_last c = some_above 0 c

    -- some faces between, all of corank 1: corank 2
    pub ridge_yes : (k j : ℕ) → k < j → j < last → IsSubset (face_at table.faces k).members (face_at table.faces j).members
        → ((i : ℕ) → k < i → i < last → IsSubset (face_at table.faces k).members (face_at table.faces i).members → IsCorank R (S i) 1)
        → IsCorank R (S k) 2
    ridge_yes k j l m s facets = record {
      longest = S j ∷ whole ∷ [];
      length_is = refl;
      is_chain = (a_face j (omega arith), is_above j k l m s, (whole_is_face, below_whole j m, tt));
      most = most;
    }
      where
        third : (x y : List Bool) (rest : List (List Bool)) → IsFace R x → IsProperPart (S k) x → IsFace R y → IsProperPart x y
            → IsChainFrom (IsFace R) IsProperWhole x (y ∷ rest) → length (y ∷ rest) ≤ 1
        third x y rest f w g v d =
            let b = between k x y (omega arith) f w g v in
            (facets b.place b.after b.before b.subset).most (y ∷ rest)
            (subst (λ (z : List Bool). IsChainFrom (IsFace R) IsProperWhole z (y ∷ rest)) (sym b.is) d)

        most : (other : List (List Bool)) → IsChainFrom (IsFace R) IsProperWhole (S k) other → length other ≤ 2
        most [] c = omega arith
        most (x ∷ []) c = omega arith
        most (x ∷ y ∷ rest) c = let h = third x y rest c.0 c.1 c.2.0 c.2.1 c.2 in omega (arith, h)

    -- and the other way round
    pub ridge_facets : (k j : ℕ) → IsCorank R (S k) 2 → k < j → j < last
        → IsSubset (face_at table.faces k).members (face_at table.faces j).members → IsCorank R (S j) 1
    ridge_facets k j c l m s = record {
      longest = whole ∷ [];
      length_is = refl;
      is_chain = (whole_is_face, below_whole j m, tt);
      most = λ other d. let h = c.most (S j ∷ other) (a_face j (omega arith), is_above j k l m s, d) in omega (arith, h);
    }

    pub ridge_some : (k : ℕ) → k < count → IsCorank R (S k) 2
        → ((j : ℕ) → k < j → j < last → IsSubset (face_at table.faces k).members (face_at table.faces j).members → ⊥) → ⊥
    ridge_some k l c none = by c.longest c.length_is c.is_chain
      where
        by : (chain : List (List Bool)) → length chain ≡ 2 → IsChainFrom (IsFace R) IsProperWhole (S k) chain → ⊥
        by [] h d = absurd (omega (arith, h))
        by (x ∷ []) h d = absurd (omega (arith, h))
        by (x ∷ y ∷ rest) h d = let b = between k x y l d.0 d.1 d.2.0 d.2.1 in none b.place b.after b.before b.subset

    -- what a search for faces between tells of corank 1
    pub told_last : (k : ℕ) → k ≡ last → (false ≡ true) ↔ IsCorank R (S k) 1
    told_last k same = (
      λ h. absurd (true_false h refl),
      λ c. absurd (facet_last (subst (λ (j : ℕ). IsCorank R (S j) 1) same c)),
    )

    pub told_between : (k j : ℕ) → k < j → j < last → IsSubset (face_at table.faces k).members (face_at table.faces j).members
        → (false ≡ true) ↔ IsCorank R (S k) 1
    told_between k j l m s = (λ h. absurd (true_false h refl), λ c. absurd (facet_no k j c l m s))

    pub told_none : (k : ℕ) → k < last
        → ((j : ℕ) → k < j → j < last → IsSubset (face_at table.faces k).members (face_at table.faces j).members → ⊥)
        → (true ≡ true) ↔ IsCorank R (S k) 1
    told_none k l none = (λ h. facet_yes k l none, λ c. refl)

    -- and of corank 2
    pub told_other : (k j : ℕ) → k < j → j < last → IsSubset (face_at table.faces k).members (face_at table.faces j).members
        → (IsCorank R (S j) 1 → ⊥) → (false ≡ true) ↔ IsCorank R (S k) 2
    told_other k j l m s n = (λ h. absurd (true_false h refl), λ c. absurd (n (ridge_facets k j c l m s)))

    pub told_all : (k : ℕ) (some : Bool) → k < count
        → (some ≡ true → (j : ℕ) × (k < j) × (j < last) × IsSubset (face_at table.faces k).members (face_at table.faces j).members)
        → (some ≡ false → (j : ℕ) → k < j → j < last → IsSubset (face_at table.faces k).members (face_at table.faces j).members → ⊥)
        → ((j : ℕ) → k < j → j < last → IsSubset (face_at table.faces k).members (face_at table.faces j).members → IsCorank R (S j) 1)
        → (some ≡ true) ↔ IsCorank R (S k) 2
    told_all k true l found none facets = (λ h. let f = found refl in ridge_yes k f.0 f.1 f.2 f.3 facets, λ c. refl)
    told_all k false l found none facets = (λ h. absurd (true_false h refl), λ c. absurd (ridge_some k l c (none refl)))
