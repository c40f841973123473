-- The candidates of a vertex, and its mask.
use Rattle.std.specs.Prelude.{ℤ}
use Rattle.std.proofs.Common.{◌≡◌, ◌⊎◌, inl, inr, ℕ, ◌+◌, ◌<◌, ◌≤◌, List, [], ◌∷◌, ◌++◌, length, sym, ap, ◌∙◌, subst, arith, length-append}
use Rattle.std.proofs.lemmas.Bool.{cases_lt}
use Rattle.std.proofs.lemmas.List.Elements.{All-nil, All-push, All-weaker, Contains-append_left, Contains-push}
use Rattle.bit_rows.specs.Rows.{IsPartOf}
use Rattle.nef_parts.specs.declared.pairings.Pairings.{Pairings}
use Rattle.nef_parts.specs.declared.masks.Candidate.{Candidate}
use Rattle.nef_parts.specs.declared.masks.VertexMask.{VertexMask}
use Rattle.nef_parts.specs.steps.Rows.{IsTightRow, IsPairings, ArePairings, pairings_at, vector_at}
use Rattle.nef_parts.specs.steps.Tables.{IsCandidateOf, HasPlace, AreCandidates, IsCandidate, IsMask, AreMasks}
use Rattle.nef_parts.proofs.Pushing.{at_push}

pub candidates_none : (tight : ℕ) (rows : List Pairings) → AreCandidates 0 tight rows []
candidates_none tight rows = record { sound = All-nil (IsCandidateOf tight rows); whole = λ place h. absurd (omega arith) }

-- a point more that is no candidate
pub candidates_same : (k tight : ℕ) (rows : List Pairings) (cs : List Candidate) → AreCandidates k tight rows cs
    → (IsPartOf tight (pairings_at rows k).low → ⊥) → AreCandidates (k + 1) tight rows cs
candidates_same k tight rows cs are isnt = record { sound = are.sound; whole = λ place h p. by place h p (cases_lt place k) }
  where
    by : (place : ℕ) → place < k + 1 → IsPartOf tight (pairings_at rows place).low → (place < k) ⊎ (k ≤ place) → HasPlace cs place
    by place h p (inl l) = are.whole place l p
    by place h p (inr m) =
        let here : place ≡ k = omega arith in
        absurd (isnt (subst (λ (j : ℕ). IsPartOf tight (pairings_at rows j).low) here p))

-- a point more that is one
pub candidates_more : (k tight : ℕ) (rows : List Pairings) (cs : List Candidate) (c : Candidate) → AreCandidates k tight rows cs
    → k < length rows → IsPartOf tight (pairings_at rows k).low → c.place ≡ k → c.tight ≡ (pairings_at rows k).tight
    → AreCandidates (k + 1) tight rows (cs ++ c ∷ [])
candidates_more k tight rows cs c are within part place_is row_is = record {
  sound = All-push (IsCandidateOf tight rows) cs c are.sound (record {
    within = omega arith;
    row = ap (λ (j : ℕ). (pairings_at rows j).tight) place_is ∙ sym row_is;
    low = subst (λ (j : ℕ). IsPartOf tight (pairings_at rows j).low) (sym place_is) part;
  });
  whole = λ place h p. by place h p (cases_lt place k);
}
  where
    by : (place : ℕ) → place < k + 1 → IsPartOf tight (pairings_at rows place).low → (place < k) ⊎ (k ≤ place) → HasPlace (cs ++ c ∷ []) place
    by place h p (inl l) = let has = are.whole place l p in (has.0, (Contains-append_left cs (c ∷ []) has.0 has.1.0, has.1.1))
    by place h p (inr m) = let here : c.place ≡ place = omega arith in (c, (Contains-push cs c, here))

-- the mask of a vertex, by the rows of all points
pub mask_is : (normals points : List (List ℤ)) (m : List ℤ) (p : Pairings) (rows : List Pairings) (mask : VertexMask)
    → IsPairings normals m p → mask.tight ≡ p.tight → AreCandidates (length rows) mask.tight rows mask.candidates.items
    → ArePairings (length points) normals points rows → IsMask normals points m mask
mask_is normals points m p rows mask is same are all = record {
  tight = tight;
  sound = All-weaker (IsCandidateOf mask.tight rows) (IsCandidate normals points m) (λ c h. candidate c h) mask.candidates.items are.sound;
  whole = λ place h stays. are.whole place (let n = all.count in omega arith) (λ e i.
      let t = (tight e).0 i in ((all.are place (let n = all.count in omega arith)).low e).1 (t.0, stays e t.0 t.1));
}
  where
    tight : IsTightRow (length normals) normals m mask.tight
    tight = subst (IsTightRow (length normals) normals m) (sym same) is.tight

    candidate : (c : Candidate) → IsCandidateOf mask.tight rows c → IsCandidate normals points m c
    candidate c h =
        let within = h.within in
        let rows_are = all.are c.place h.within in
        record {
          within = let n = all.count in omega arith;
          low = λ e l t. ((rows_are.low e).0 (h.low e ((tight e).1 (l, t)))).1;
          row = subst (IsTightRow (length normals) normals (vector_at points c.place)) h.row rows_are.tight;
        }

pub masks_none : (vertices normals points : List (List ℤ)) → AreMasks 0 vertices normals points []
masks_none vertices normals points = record { count = omega arith; are = λ k d h. absurd (omega arith) }

pub masks_more : (n : ℕ) (vertices normals points : List (List ℤ)) (masks : List VertexMask) (mask : VertexMask)
    → AreMasks n vertices normals points masks → IsMask normals points (vector_at vertices n) mask
    → AreMasks (n + 1) vertices normals points (masks ++ mask ∷ [])
masks_more n vertices normals points masks mask are last = record {
  count = let c = are.count in let l = length-append masks (mask ∷ []) in omega arith;
  are = λ k d h. at_push (λ j v. IsMask normals points (vector_at vertices j) v) masks mask d (λ j l. are.are j d l)
      (subst (λ (j : ℕ). IsMask normals points (vector_at vertices j) mask) (sym are.count) last) k h;
}
