-- When a point is a vertex, and what the loop over the points keeps.
use Rattle.std.proofs.Common.{◌≡◌, ◌↔◌, ℕ, zero, suc, ◌+◌, ◌<◌, ◌≤◌, List, [], ◌∷◌, ◌++◌, length, get_or, take, ℤ, pos, negsuc, ◌+ℤ◌}
use Rattle.std.proofs.Common.{◌≤ℤ◌, inl, inr, ⊎_elim, refl, sym, ap, subst, ◌∙◌, arith, All, Contains}
use Rattle.std.proofs.lemmas.List.Elements.{All-contains, All-weaker, All-contains_itself, Contains-append_left, Contains-push, Contains-push_cases}
use Rattle.lattice_theory.specs.Vector.{HaveDimension, others}
use Rattle.lattice_theory.specs.Affine.{Affine, value, IsNonnegative}
use Rattle.lattice_theory.specs.Size.{size, absolute_sum}
use Rattle.lattice_theory.specs.Hull.{InHull, IsVertex, AreVertices}
use Rattle.lattice_theory.specs.Order.{Ascends, LexLess}
use Rattle.lattice_theory.specs.Facet.{IsFlat, AreFacetsInAnyOrder}
use Rattle.lattice_theory.proofs.Integers.{linear}
use Rattle.lattice_theory.proofs.Members.{Each, empty, more, each_from_all, all_from_each}
use Rattle.facet_theory.specs.Solid.{AreSolid}
use Rattle.facet_theory.proofs.Vertices.{vertices_by_facets_lem}
use Rattle.normal_bounds.proofs.Sizes.{point_absolute_sum_lem}
use Rattle.hull.specs.steps.Tight.{LiesWith, LiesAlone, HasVertices}
use Rattle.lattice_core.specs.ValueWidths.{FitsWidth, Serves}
use Rattle.lattice_core.specs.declared.value_widths.Width.{Width}
use Rattle.hull.proofs.FacetBounds.{facets_bounded_lem}
use Rattle.hull_growth.proofs.Appending.{contains_more}
use Rattle.hull_growth.proofs.Inside.{no_coordinates}
use Rattle.hull_growth.proofs.Small.{solid_at}

-- the facets' dimension
pub facets_dimension : (n : ℕ) (points : List (List ℤ)) (facets : List Affine) → AreFacetsInAnyOrder n points facets
    → All (λ f. length f.normal ≡ n) facets
facets_dimension n points facets h = All-weaker (Contains facets) (λ f. length f.normal ≡ n) (λ f c. ((h f).0 c).dimension) facets
    (All-contains_itself facets)

-- so there are no others
no_others : (points : List (List ℤ)) (v : List ℤ) → Each (λ p. length p ≡ 0) points → length v ≡ 0 → others points v ≡ []
no_others [] v d e = refl
no_others (p ∷ points) (a ∷ v) d e = absurd (omega arith)
no_others ((a ∷ p) ∷ points) [] (more h d) e = absurd (omega arith)
no_others ([] ∷ points) [] (more h d) e = no_others points [] d e

-- and each is a vertex
pub vertex_without : (points : List (List ℤ)) (v : List ℤ) → HaveDimension 0 points → Contains points v → IsVertex 0 points v
vertex_without points v d c = record { member = c; outside = λ h. outside h }
  where
    below : pos 0 ≤ℤ (pos 0 +ℤ negsuc 0) → ⊥
    below h = omega (arith, linear)

    none : others points v ≡ []
    none = no_others points v (each_from_all (λ p. length p ≡ 0) points d) (All-contains (λ p. length p ≡ 0) points v d c)

    outside : InHull 0 (others points v) v → ⊥
    outside h = below (h (record { normal = []; constant = negsuc 0 }) refl
        (subst (λ (ps : List (List ℤ)). IsNonnegative ps (record { normal = []; constant = negsuc 0 })) (sym none) (all_from_each empty)))

-- the facets' values at the points fit the width that serves the points' size
pub facets_fit : (n : ℕ) (points : List (List ℤ)) (facets : List Affine) (width : Width) → 1 ≤ n → HaveDimension n points
    → (IsFlat n points → ⊥) → AreFacetsInAnyOrder n points facets → Serves n (size n points) width
    → All (λ p. All (λ f. FitsWidth width f p) facets) points
facets_fit zero points facets width some d s h serves = absurd (omega (arith, some))
facets_fit (suc k) points facets width some d s h serves =
    All-weaker (λ p. absolute_sum p ≤ size (suc k) points) (λ p. All (λ f. FitsWidth width f p) facets)
    (λ p small. All-weaker (Contains facets) (λ f. FitsWidth width f p)
    (λ f c. serves f p (facets_bounded_lem (suc k) points (solid_at k points d s) f ((h f).0 c)) small) facets (All-contains_itself facets))
    points (point_absolute_sum_lem (suc k) points d)

-- a point of the list is a vertex exactly where no other lies with it, by the law on vertices
alone_by_law : (n : ℕ) (points : List (List ℤ)) (facets : List Affine) (v : List ℤ) → AreSolid n points
    → AreFacetsInAnyOrder n points facets → Contains points v → LiesAlone points facets v ↔ IsVertex n points v
alone_by_law n points facets v s h c = (there, back)
  where
    there : LiesAlone points facets v → IsVertex n points v
    there a = (vertices_by_facets_lem n points s v c).1 (λ p d t. All-contains (λ p. LiesWith facets v p
        → p ≡ v) points p a d (All-weaker (Contains facets) (λ f. value f v ≡ pos 0 → value f p ≡ pos 0) (λ f k. t f ((h f).0 k)) facets
        (All-contains_itself facets)))

    back : IsVertex n points v → LiesAlone points facets v
    back k = All-weaker (Contains points) (λ p. LiesWith facets v p → p ≡ v) alone points (All-contains_itself points)
      where
        alone : (p : List ℤ) → Contains points p → LiesWith facets v p → p ≡ v
        alone p d t = (vertices_by_facets_lem n points s v c).0 k p d (λ f i z. All-contains (λ f. value f v ≡ pos 0
            → value f p ≡ pos 0) facets f t ((h f).1 i) z)

-- and also without coordinates
pub vertex_alone : (n : ℕ) (points : List (List ℤ)) (facets : List Affine) (v : List ℤ) → HaveDimension n points → (IsFlat n points → ⊥)
    → AreFacetsInAnyOrder n points facets → Contains points v → LiesAlone points facets v ↔ IsVertex n points v
vertex_alone (suc k) points facets v d s h c = alone_by_law (suc k) points facets v (solid_at k points d s) h c
vertex_alone zero points facets v d s h c = (
  λ a. vertex_without points v d c,
  λ x. All-weaker (λ p. length p ≡ 0) (λ p. LiesWith facets v p
      → p ≡ v) (λ p e t. no_coordinates p v e (All-contains (λ p. length p ≡ 0) points v d c)) points d,
)

-- one more point that isn't a vertex
has_same : (n : ℕ) (points some vs : List (List ℤ)) (i : ℕ) (p : List ℤ) → i < length some → p ≡ get_or some i p → (IsVertex n points p → ⊥)
    → HasVertices n points (take i some) vs → HasVertices n points (take (i + 1) some) vs
has_same n points some vs i p h e other k v = (there, back)
  where
    there : Contains vs v → Contains (take (i + 1) some) v × IsVertex n points v
    there c = let o = (k v).0 c in ((contains_more some i p v h e).1 (inl o.0), o.1)

    back : Contains (take (i + 1) some) v × IsVertex n points v → Contains vs v
    back (c, x) = ⊎_elim (λ (o : Contains (take i some) v). (k v).1 (o, x))
        (λ (j : p ≡ v). absurd (other (subst (IsVertex n points) (sym j) x))) ((contains_more some i p v h e).0 c)

-- one more vertex
has_more : (n : ℕ) (points some vs : List (List ℤ)) (i : ℕ) (p : List ℤ) → i < length some → p ≡ get_or some i p → IsVertex n points p
    → HasVertices n points (take i some) vs → HasVertices n points (take (i + 1) some) (vs ++ (p ∷ []))
has_more n points some vs i p h e y k v = (there, back)
  where
    there : Contains (vs ++ (p ∷ [])) v → Contains (take (i + 1) some) v × IsVertex n points v
    there c = ⊎_elim
        (λ (o : Contains vs v). let m = (k v).0 o in ((contains_more some i p v h e).1 (inl m.0), m.1))
        (λ (j : p ≡ v). ((contains_more some i p v h e).1 (inr j), subst (IsVertex n points) j y))
        (Contains-push_cases vs p v c)

    back : Contains (take (i + 1) some) v × IsVertex n points v → Contains (vs ++ (p ∷ [])) v
    back (c, x) = ⊎_elim
        (λ (o : Contains (take i some) v). Contains-append_left vs (p ∷ []) v ((k v).1 (o, x)))
        (λ (j : p ≡ v). subst (Contains (vs ++ (p ∷ []))) j (Contains-push vs p))
        ((contains_more some i p v h e).0 c)

-- the vertices, in order
pub vertices_listed : (n : ℕ) (points found vs : List (List ℤ)) → HasVertices n points points found → Ascends LexLess vs
    → ((v : List ℤ) → Contains vs v ↔ Contains found v) → AreVertices n points vs
vertices_listed n points found vs k ascends same = record {
  ascends = ascends;
  members = λ v. (λ c. ((k v).0 ((same v).0 c)).1, λ x. (same v).1 ((k v).1 (x.member, x)));
}

-- they have the points' dimension
pub vertices_dimension : (n : ℕ) (points found : List (List ℤ)) → HaveDimension n points → HasVertices n points points found
    → HaveDimension n found
vertices_dimension n points found d k =
    All-weaker (Contains found) (λ p. length p ≡ n) (λ v c. All-contains (λ p. length p ≡ n) points v d ((k v).0 c).0) found
    (All-contains_itself found)

-- the loop's turn at a vertex, of which a copy is added
pub turn_added : (n : ℕ) (points some vs new : List (List ℤ)) (i : ℕ) (p copy : List ℤ) → i < length some → p ≡ get_or some i p
    → IsVertex n points p → copy ≡ p → new ≡ vs ++ (copy ∷ []) → HasVertices n points (take i some) vs
    → HasVertices n points (take (i + 1) some) new
turn_added n points some vs new i p copy h e x c s k = subst (HasVertices n points (take (i + 1) some)) (sym (s ∙ ap (λ q. vs ++ (q ∷ [])) c))
    (has_more n points some vs i p h e x k)

-- its turn at another point
pub turn_kept : (n : ℕ) (points some vs new : List (List ℤ)) (i : ℕ) (p : List ℤ) → i < length some → p ≡ get_or some i p
    → (IsVertex n points p → ⊥) → new ≡ vs → HasVertices n points (take i some) vs → HasVertices n points (take (i + 1) some) new
turn_kept n points some vs new i p h e x s k = subst (HasVertices n points (take (i + 1) some)) (sym s) (has_same n points some vs i p h e x k)
