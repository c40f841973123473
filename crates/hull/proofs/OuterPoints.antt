-- The points outside the first simplex, with its corners, have the hull of all points.
use Rattle.std.proofs.Common.{◌≡◌, inl, inr, ⊎_elim, ℕ, zero, suc, ◌+◌, ◌<◌, List, [], ◌∷◌, ◌++◌, length, get_or, take, ℤ, pos, ◌≤ℤ◌}
use Rattle.std.proofs.Common.{refl, sym, ap, ◌∙◌, subst, All, Contains, arith}
use Rattle.std.proofs.lemmas.List.Elements.{All-contains, All-weaker, All-contains_itself, Contains-append_left, Contains-push, Contains-push_cases}
use Rattle.lattice_theory.specs.Vector.{HaveDimension}
use Rattle.lattice_theory.specs.Affine.{Affine, value, IsNonnegative}
use Rattle.lattice_theory.specs.Size.{size}
use Rattle.lattice_theory.specs.Hull.{InHull}
use Rattle.lattice_theory.specs.Facet.{IsFlat, IsFacet}
use Rattle.facet_theory.proofs.Hull.{hull_by_facets_lem}
use Rattle.lattice_core.specs.Dimensions.{dimension_of}
use Rattle.lattice_core.specs.PointLists.{AreSizedPoints, AreSolidPoints}
use Rattle.lattice_core.specs.ValueWidths.{Serves}
use Rattle.lattice_core.specs.declared.value_widths.Width.{Width}
use Rattle.lattice_core.proofs.Dimension.{dimension_is}
use Rattle.hull_growth.specs.Grown.{HasFacets}
use Rattle.hull_growth.proofs.Appending.{contains_more}
use Rattle.hull_growth.proofs.Small.{solid_at, no_facet, fewer_dimension}
use Rattle.hull.specs.steps.Growing.{IsOuter, IsWholeHull}
use Rattle.hull.specs.steps.Simplex.{IsSimplex}
use Rattle.hull.specs.steps.Widths.{ServesPoints}
use Rattle.hull.proofs.BuilderFacts.{has_facets}
use Rattle.hull.proofs.FacetBounds.{fewer_serves}
use Rattle.hull.proofs.Growing.{facets_of_points}
use Rattle.hull.proofs.FewerPoints.{fewer_sized_points, fewer_solid}

-- at first there are the corners
pub outer_first : (corners : List (List ℤ)) (functions : List Affine) (outer : List (List ℤ)) → outer ≡ corners
    → IsOuter corners functions [] outer
outer_first corners functions outer e = record {
  corners_in = λ c m. subst (λ (ps : List (List ℤ)). Contains ps c) (sym e) m;
  among = λ p m. inl (subst (λ (ps : List (List ℤ)). Contains ps p) e m);
  rest = λ p m. absurd (none p m);
}
  where
    none : (p : List ℤ) → Contains [] p → ⊥
    none p (k, l, e) = omega arith

-- the turn at a point in the simplex
pub outer_same : (corners : List (List ℤ)) (functions : List Affine) (points : List (List ℤ)) (i : ℕ) (p : List ℤ) (outer new : List (List ℤ))
    → i < length points → p ≡ get_or points i p → All (λ f. pos 0 ≤ℤ value f p) functions → new ≡ outer
    → IsOuter corners functions (take i points) outer → IsOuter corners functions (take (i + 1) points) new
outer_same corners functions points i p outer new h e inside s so_far = subst (IsOuter corners functions (take (i + 1) points)) (sym s) (record {
  corners_in = so_far.corners_in;
  among = λ q m. ⊎_elim (λ (c : Contains corners q). inl c)
      (λ (c : Contains (take i points) q). inr ((contains_more points i p q h e).1 (inl c))) (so_far.among q m);
  rest = λ q m. ⊎_elim (λ (c : Contains (take i points) q). so_far.rest q c)
      (λ (c : p ≡ q). inr (subst (λ (x : List ℤ). All (λ f. pos 0 ≤ℤ value f x) functions) c inside)) ((contains_more points i p q h e).0 m);
})

-- the turn at another one, of which a copy is added
pub outer_more : (corners : List (List ℤ)) (functions : List Affine) (points : List (List ℤ)) (i : ℕ) (p copy : List ℤ) (outer new : List (List ℤ))
    → i < length points → p ≡ get_or points i p → copy ≡ p → new ≡ outer ++ (copy ∷ [])
    → IsOuter corners functions (take i points) outer → IsOuter corners functions (take (i + 1) points) new
outer_more corners functions points i p copy outer new h e c s so_far =
    subst (IsOuter corners functions (take (i + 1) points)) (sym (s ∙ ap (λ (q : List ℤ). outer ++ (q ∷ [])) c)) (record {
      corners_in = λ q m. Contains-append_left outer (p ∷ []) q (so_far.corners_in q m);
      among = λ q m. ⊎_elim
          (λ (o : Contains outer q). ⊎_elim (λ (k : Contains corners q). inl k)
          (λ (k : Contains (take i points) q). inr ((contains_more points i p q h e).1 (inl k))) (so_far.among q o))
          (λ (o : p ≡ q). inr ((contains_more points i p q h e).1 (inr o))) (Contains-push_cases outer p q m);
      rest = λ q m. ⊎_elim
          (λ (k : Contains (take i points) q). ⊎_elim (λ (o : Contains outer q). inl (Contains-append_left outer (p ∷ []) q o))
          (λ (o : All (λ f. pos 0 ≤ℤ value f q) functions). inr o) (so_far.rest q k))
          (λ (k : p ≡ q). inl (subst (Contains (outer ++ (p ∷ []))) k (Contains-push outer p))) ((contains_more points i p q h e).0 m);
    })

module _ (points corners outer : List (List ℤ)) (functions : List Affine) (solid : AreSolidPoints points) (simplex : IsSimplex points corners)
    (facets : HasFacets (dimension_of corners) corners functions) (is : IsOuter corners functions points outer) where
  -- the outer points are points
  outer_among : (p : List ℤ) → Contains outer p → Contains points p
  outer_among p m = ⊎_elim (λ (c : Contains corners p). simplex.among p c) (λ (c : Contains points p). c) (is.among p m)

  some_of : (cs : List (List ℤ)) → 0 < length cs → ((c : List ℤ) → Contains cs c → Contains outer c) → 0 < length outer
  some_of [] h k = absurd (omega (arith, h))
  some_of (c ∷ cs) h k = least (k c (0, omega arith, refl))
    where
      least : Contains outer c → 0 < length outer
      least (i, l, e) = omega arith

  some : 0 < length outer
  some = some_of corners simplex.solid.sized.are_points.some is.corners_in

  -- within the size limit
  pub outer_sized : AreSizedPoints outer
  outer_sized = fewer_sized_points points outer solid.sized some outer_among

  pub outer_dimension : dimension_of outer ≡ dimension_of points
  outer_dimension = dimension_is (dimension_of points) outer some
      (fewer_dimension (dimension_of points) outer points outer_among solid.sized.are_points.one_dimension)

  -- the width that serves the points serves them
  pub outer_serves : (width : Width) → ServesPoints points width → ServesPoints outer width
  outer_serves width serves = subst (λ (n : ℕ). Serves n (size n outer) width) (sym outer_dimension)
      (fewer_serves (dimension_of points) points outer width outer_among serves)

  -- the simplex is one of outer points
  pub outer_simplex : IsSimplex outer corners
  outer_simplex = record {
    dimension = simplex.dimension ∙ sym outer_dimension;
    count = simplex.count ∙ ap (λ (n : ℕ). n + 1) (sym outer_dimension);
    among = is.corners_in;
    solid = simplex.solid;
  }

  -- they aren't flat
  outer_solid : IsFlat (dimension_of points) outer → ⊥
  outer_solid flat = fewer_solid outer corners outer_sized simplex.solid.sized.are_points.some is.corners_in simplex.solid.solid
      (subst (λ (n : ℕ). IsFlat n outer) (sym outer_dimension) flat)

  -- what is nonnegative on them is so on all points: the other ones lie in the simplex
  outer_nonnegative : (n : ℕ) → n ≡ dimension_of points → (f : Affine) → IsFacet n outer f → IsNonnegative points f
  outer_nonnegative zero e f facet = absurd (no_facet f outer facet)
  outer_nonnegative (suc k) e f facet = All-weaker (Contains points) (λ p. pos 0 ≤ℤ value f p) at points (All-contains_itself points)
    where
      same : dimension_of corners ≡ suc k
      same = simplex.dimension ∙ sym e

      on_corners : IsNonnegative corners f
      on_corners = All-weaker (Contains corners) (λ p. pos 0 ≤ℤ value f p)
          (λ c m. All-contains (λ p. pos 0 ≤ℤ value f p) outer c facet.nonnegative (is.corners_in c m)) corners (All-contains_itself corners)

      inside : (p : List ℤ) → Contains points p → All (λ g. pos 0 ≤ℤ value g p) functions → InHull (suc k) corners p
      inside p m all = (hull_by_facets_lem (suc k) corners
          (solid_at k corners (subst (λ (n : ℕ). HaveDimension n corners) same simplex.solid.sized.are_points.one_dimension)
          (subst (λ (n : ℕ). IsFlat n corners → ⊥) same simplex.solid.solid)) p
          (All-contains (λ q. length q ≡ dimension_of points) points p solid.sized.are_points.one_dimension m ∙ sym e)).1
          (λ g own. All-contains (λ h. pos 0 ≤ℤ value h p) functions g all
          ((facets.members g).1 (subst (λ (n : ℕ). IsFacet n corners g) (sym same) own)))

      at : (p : List ℤ) → Contains points p → pos 0 ≤ℤ value f p
      at p m = ⊎_elim (λ (o : Contains outer p). All-contains (λ q. pos 0 ≤ℤ value f q) outer p facet.nonnegative o)
          (λ (o : All (λ g. pos 0 ≤ℤ value g p) functions). inside p m o f facet.dimension on_corners) (is.rest p m)

  -- so their whole hull is that of all points
  pub outer_whole : (grown : List (List ℤ)) (all : List Affine) → IsWholeHull outer grown all → IsWholeHull points grown all
  outer_whole grown all hull = record {
    dimension = hull.dimension ∙ outer_dimension;
    among = λ c m. outer_among c (hull.among c m);
    solid = hull.solid;
    own = hull.own;
    whole = record { ascends = hull.whole.ascends; members = them.members };
  }
    where
      n : ℕ
      n = dimension_of points

      listed : HasFacets n outer all
      listed = subst (λ (m : ℕ). HasFacets m outer all) outer_dimension (has_facets (dimension_of outer) outer all hull.whole)

      them : HasFacets n points all
      them = facets_of_points n outer points all
          (fewer_dimension n outer points outer_among solid.sized.are_points.one_dimension) outer_solid outer_among listed
          (All-weaker (Contains all) (IsNonnegative points) (λ f m. outer_nonnegative n refl f ((listed.members f).0 m)) all
          (All-contains_itself all))
