-- What the search for candidates keeps, and which of them are vertices.
use Rattle.std.proofs.Common.{◌≡◌, ◌↔◌, inl, inr, ⊎_elim, ℕ, ◌+◌, ◌<◌, ◌≤◌, List, [], ◌∷◌, ◌++◌, length, map, take, ℤ, get_or, sym, ap, ◌∙◌, subst, arith, All, Any, Contains}
use Rattle.std.proofs.lemmas.List.{get_or-map, length-map, take_all}
use Rattle.std.proofs.lemmas.List.Elements.{All-contains, All-weaker, All-contains_itself, Contains-append_left, Contains-push, Contains-push_cases}
use Rattle.lattice_theory.specs.Affine.{Affine}
use Rattle.lattice_theory.specs.Vector.{HaveDimension}
use Rattle.lattice_theory.specs.Hull.{IsVertex}
use Rattle.lattice_theory.specs.Facet.{IsFlat, AreFacetsInAnyOrder}
use Rattle.bit_rows.specs.Rows.{IsPartOf}
use Rattle.hull.specs.declared.candidates.Candidate.{Candidate}
use Rattle.hull.specs.steps.Tight.{LiesWith, LiesAlone, IsTightRow, HasVertices}
use Rattle.hull.specs.steps.Candidates.{IsAbove, IsLone, LiesAbove, AreCandidates}
use Rattle.hull.proofs.TightRows.{part_is_with}
use Rattle.hull_growth.proofs.Appending.{contains_more}
use Rattle.hull.proofs.VertexSearch.{vertex_alone}

-- a fact of each member, from one of each that the list contains
all_contained : {X : Type 0} (P : X → Type 0) (xs : List X) → ((x : X) → Contains xs x → P x) → All P xs
all_contained P xs h = All-weaker (Contains xs) P h xs (All-contains_itself xs)

-- a member with a fact
some_member : {X : Type 0} (P : X → Type 0) (xs : List X) → Any P xs → (x : X) × Contains xs x × P x
some_member P xs (k, x, l, e, h) = (x, (k, l, e), h)

member_has : {X : Type 0} (P : X → Type 0) (xs : List X) (x : X) → Contains xs x → P x → Any P xs
member_has P xs x (k, l, e) h = (k, x, l, e, h)

-- rows are compared as points are
above_lies : (functions : List Affine) (row : ℕ) (p : List ℤ) (c : Candidate) → IsTightRow functions p row → IsTightRow functions c.point c.row
    → IsAbove row p c → LiesAbove functions p c
above_lies functions row p c tight its (part, other) = (
  (part_is_with functions p c.point row c.row tight its).0 part,
  ⊎_elim (λ (n : IsPartOf c.row row → ⊥). inl (λ (w : LiesWith functions c.point p). n ((part_is_with functions c.point p c.row row its tight).1 w)))
      (λ (e : c.point ≡ p). inr e) other,
)

-- the turn at a point that some candidate is above of
pub candidates_stay : (functions : List Affine) (points : List (List ℤ)) (i row : ℕ) (p : List ℤ) (candidates : List Candidate)
    → i < length points → p ≡ get_or points i p → IsTightRow functions p row → Any (IsAbove row p) candidates
    → AreCandidates functions (take i points) candidates → AreCandidates functions (take (i + 1) points) candidates
candidates_stay functions points i row p candidates h e tight above so_far = record {
  members = all_contained (λ c. Contains (take (i + 1) points) c.point) candidates
      (λ c k. (contains_more points i p c.point h e).1 (inl (All-contains (λ c. Contains (take i points) c.point) candidates c so_far.members k)));
  rows = so_far.rows;
  covered = all_contained (λ q. Any (LiesAbove functions q) candidates) (take (i + 1) points) (λ q k. ⊎_elim
      (λ (l : Contains (take i points) q). All-contains (λ q. Any (LiesAbove functions q) candidates) (take i points) q so_far.covered l)
      (λ (l : p ≡ q). subst (λ q. Any (LiesAbove functions q) candidates) l covers)
      ((contains_more points i p q h e).0 k));
}
  where
    covers : Any (LiesAbove functions p) candidates
    covers = by (some_member (IsAbove row p) candidates above)
      where
        by : (c : Candidate) × Contains candidates c × IsAbove row p c → Any (LiesAbove functions p) candidates
        by (c, k, a) = member_has (LiesAbove functions p) candidates c k
            (above_lies functions row p c tight (All-contains (λ c. IsTightRow functions c.point c.row) candidates c so_far.rows k) a)

-- the turn at another point, which becomes a candidate
pub candidates_grow : (functions : List Affine) (points : List (List ℤ)) (i row : ℕ) (p : List ℤ) (candidates new : List Candidate) (c : Candidate)
    → i < length points → p ≡ get_or points i p → IsTightRow functions p row → c.point ≡ p → c.row ≡ row → new ≡ candidates ++ (c ∷ [])
    → AreCandidates functions (take i points) candidates → AreCandidates functions (take (i + 1) points) new
candidates_grow functions points i row p candidates new c h e tight same same_row pushed so_far =
    subst (AreCandidates functions (take (i + 1) points)) (sym pushed) (record {
      members = all_contained (λ d. Contains (take (i + 1) points) d.point) (candidates ++ (c ∷ [])) (λ d k. ⊎_elim
          (λ (l : Contains candidates d). (contains_more points i p d.point h e).1
          (inl (All-contains (λ d. Contains (take i points) d.point) candidates d so_far.members l)))
          (λ (l : c ≡ d). (contains_more points i p d.point h e).1 (inr (sym same ∙ ap (λ (x : Candidate). x.point) l)))
          (Contains-push_cases candidates c d k));
      rows = all_contained (λ d. IsTightRow functions d.point d.row) (candidates ++ (c ∷ [])) (λ d k. ⊎_elim
          (λ (l : Contains candidates d). All-contains (λ d. IsTightRow functions d.point d.row) candidates d so_far.rows l)
          (λ (l : c ≡ d). subst (λ (x : Candidate). IsTightRow functions x.point x.row) l its_row)
          (Contains-push_cases candidates c d k));
      covered = all_contained (λ q. Any (LiesAbove functions q) (candidates ++ (c ∷ []))) (take (i + 1) points) (λ q k. ⊎_elim
          (λ (l : Contains (take i points) q). older q (All-contains (λ q. Any (LiesAbove functions q) candidates) (take i points) q so_far.covered l))
          (λ (l : p ≡ q). member_has (LiesAbove functions q) (candidates ++ (c ∷ [])) c (Contains-push candidates c)
          (subst (λ q. LiesAbove functions q c) l itself))
          ((contains_more points i p q h e).0 k));
    })
  where
    its_row : IsTightRow functions c.point c.row
    its_row = subst (λ q. IsTightRow functions q c.row) (sym same) (subst (IsTightRow functions p) (sym same_row) tight)

    itself : LiesAbove functions p c
    itself = (subst (LiesWith functions p) (sym same) (λ k d l z. z), inr same)

    older : (q : List ℤ) → Any (LiesAbove functions q) candidates → Any (LiesAbove functions q) (candidates ++ (c ∷ []))
    older q a = by (some_member (LiesAbove functions q) candidates a)
      where
        by : (d : Candidate) × Contains candidates d × LiesAbove functions q d → Any (LiesAbove functions q) (candidates ++ (c ∷ []))
        by (d, k, b) = member_has (LiesAbove functions q) (candidates ++ (c ∷ [])) d (Contains-append_left candidates (c ∷ []) d k) b

-- a candidate is lone among the candidates exactly where no other point lies with it
pub lone_is_alone : (functions : List Affine) (points : List (List ℤ)) (candidates : List Candidate) (c : Candidate)
    → AreCandidates functions points candidates → Contains candidates c → IsLone candidates c ↔ LiesAlone points functions c.point
lone_is_alone functions points candidates c are k = (there, back)
  where
    row_of : (d : Candidate) → Contains candidates d → IsTightRow functions d.point d.row
    row_of d l = All-contains (λ d. IsTightRow functions d.point d.row) candidates d are.rows l

    lies : (d : Candidate) → Contains candidates d → IsPartOf c.row d.row ↔ LiesWith functions c.point d.point
    lies d l = part_is_with functions c.point d.point c.row d.row (row_of c k) (row_of d l)

    through : (p q r : List ℤ) → LiesWith functions p q → LiesWith functions q r → LiesWith functions p r
    through p q r a b i d h z = b i d h (a i d h z)

    there : IsLone candidates c → LiesAlone points functions c.point
    there lone = all_contained (λ p. LiesWith functions c.point p → p ≡ c.point) points (λ p m w. by p w
        (some_member (LiesAbove functions p) candidates (All-contains (λ p. Any (LiesAbove functions p) candidates) points p are.covered m)))
      where
        by : (p : List ℤ) → LiesWith functions c.point p → (d : Candidate) × Contains candidates d × LiesAbove functions p d → p ≡ c.point
        by p w (d, l, (b, other)) = ⊎_elim
            (λ (n : LiesWith functions d.point p → ⊥). absurd (n (subst (λ q. LiesWith functions q p) (sym same) w)))
            (λ (e : d.point ≡ p). sym e ∙ same) other
          where
            same : d.point ≡ c.point
            same = All-contains (λ d. IsPartOf c.row d.row → d.point ≡ c.point) candidates d lone l
                ((lies d l).1 (through c.point p d.point w b))

    back : LiesAlone points functions c.point → IsLone candidates c
    back alone = all_contained (λ d. IsPartOf c.row d.row → d.point ≡ c.point) candidates (λ d l part.
        All-contains (λ p. LiesWith functions c.point p → p ≡ c.point) points d.point alone
        (All-contains (λ d. Contains points d.point) candidates d are.members l) ((lies d l).0 part))

-- the points of candidates
abbrev pub points_of : List Candidate → List (List ℤ)
points_of candidates = map (λ c. c.point) candidates

contains_point : (candidates : List Candidate) (d : Candidate) → Contains candidates d → Contains (points_of candidates) d.point
contains_point candidates d (k, l, e) = (
  k,
  (let all = length-map candidates (λ (c : Candidate). c.point) in omega arith),
  get_or-map (λ (c : Candidate). c.point) candidates k d d.point l ∙ ap (λ (c : Candidate). c.point) e,
)

-- the vertices among them are those among all points
pub candidate_vertices : (n : ℕ) (points vs : List (List ℤ)) (facets : List Affine) (candidates : List Candidate) → HaveDimension n points
    → (IsFlat n points → ⊥) → AreFacetsInAnyOrder n points facets → AreCandidates facets points candidates
    → HasVertices n points (points_of candidates) vs → HasVertices n points points vs
candidate_vertices n points vs facets candidates dimension solid all are has v = (there, back)
  where
    there : Contains vs v → Contains points v × IsVertex n points v
    there c = let vertex = ((has v).0 c).1 in (vertex.member, vertex)

    back : Contains points v × IsVertex n points v → Contains vs v
    back (m, vertex) = by
        (some_member (LiesAbove facets v) candidates (All-contains (λ p. Any (LiesAbove facets p) candidates) points v are.covered m))
      where
        alone : LiesAlone points facets v
        alone = (vertex_alone n points facets v dimension solid all m).1 vertex

        by : (d : Candidate) × Contains candidates d × LiesAbove facets v d → Contains vs v
        by (d, l, above) = (has v).1 (
          subst (Contains (points_of candidates)) (All-contains (λ p. LiesWith facets v p → p ≡ v) points d.point alone
              (All-contains (λ d. Contains points d.point) candidates d are.members l) above.0)
              (contains_point candidates d l),
          vertex,
        )

-- the point of the candidate at a place
pub point_at : (candidates : List Candidate) (i : ℕ) (c : Candidate) → i < length candidates → c ≡ get_or candidates i c
    → (i < length (points_of candidates)) × (c.point ≡ get_or (points_of candidates) i c.point)
point_at candidates i c h e = (
  (let all = length-map candidates (λ (d : Candidate). d.point) in omega arith),
  ap (λ (d : Candidate). d.point) e ∙ sym (get_or-map (λ (d : Candidate). d.point) candidates i c c.point h),
)

-- all of them
pub points_all : (candidates : List Candidate) (i : ℕ) → length candidates ≤ i → take i (points_of candidates) ≡ points_of candidates
points_all candidates i h = take_all i (points_of candidates) (let all = length-map candidates (λ (d : Candidate). d.point) in omega arith)

-- the point of a lone candidate is a vertex, and conversely
pub lone_is_vertex : (n : ℕ) (points : List (List ℤ)) (facets : List Affine) (candidates : List Candidate) (c : Candidate) → HaveDimension n points
    → (IsFlat n points → ⊥) → AreFacetsInAnyOrder n points facets → AreCandidates facets points candidates → Contains candidates c
    → IsLone candidates c ↔ IsVertex n points c.point
lone_is_vertex n points facets candidates c dimension solid all are k = (λ h. decides.0 (lone.0 h), λ h. lone.1 (decides.1 h))
  where
    lone : IsLone candidates c ↔ LiesAlone points facets c.point
    lone = lone_is_alone facets points candidates c are k

    decides : LiesAlone points facets c.point ↔ IsVertex n points c.point
    decides = vertex_alone n points facets c.point dimension solid all (All-contains (λ d. Contains points d.point) candidates c are.members k)
