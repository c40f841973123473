-- The facets of the normals of a reflexive polytope: each is the function (v, 1) of a vertex v.
use Rattle.std.proofs.Common.{◌≡◌, ◌≢◌, ℕ, ◌<◌, List, length, ℤ, pos, ◌+ℤ◌, ◌-ℤ◌, ◌*ℤ◌, ◌≤ℤ◌, ◌<ℤ◌, ◌⊎◌, inl, inr, sym, ap, ◌∙◌, subst, arith}
use Rattle.lattice_theory.specs.Vector.{dot, scaled, IsPrimitive}
use Rattle.lattice_theory.specs.Affine.{Affine, value, value_over, IsMultiple}
use Rattle.lattice_theory.specs.Facet.{IsFacet}
use Rattle.lattice_theory.specs.Hull.{IsVertex}
use Rattle.lattice_theory.proofs.Integers.{linear, products_out, positive_or_not, positive_is, cancel_left, zero_or_not, *ℤ-one, *ℤ_assoc}
use Rattle.lattice_theory.proofs.Members.{In, all_from_each, each_from_all, each_from_in, each_in, in_from_contains, contains_from_in}
use Rattle.lattice_theory.proofs.Vectors.{dot_comm, scaled-one}
use Rattle.lattice_theory.proofs.Divisibility.{primitive_nonzero, multiple_of_primitive, divides_one}
use Rattle.facet_theory.specs.Solid.{AreSolid}
use Rattle.facet_theory.proofs.Lifted.{some_point}
use Rattle.facet_theory.proofs.Generate.{facets_generate_lem}
use Rattle.facet_theory.proofs.Hull.{sum_nonnegative}
use Rattle.facet_theory.proofs.Listed.{AllFacets, all_facets}
use Rattle.facet_theory.proofs.Signs.{nonnegative_same, positive_from, nonnegative_at, nonnegative_from}
use Rattle.facet_theory.proofs.Smallest.{Smallest, smallest_of}
use Rattle.facet_theory.proofs.Vertices.{vertices_by_facets_lem}
use Rattle.facet_theory.proofs.ZeroSums.{IsSupporting, ZeroSum, facet_sum_at}
use Rattle.duality_theory.specs.Reflexive.{IsReflexive, AreFacetNormals, with_one}
use Rattle.duality_theory.proofs.FacetNormals.{NormalOf, normal_of, normal_in, normals_surround_lem}

-- a multiple of (x, c) that is (p, 1), where x is primitive and c is positive: p is x, and c is 1
pub point_of_multiple : (p : List ℤ) (g : Affine) → IsPrimitive g.normal → pos 0 <ℤ g.constant → IsMultiple (with_one p) g
    → (p ≡ g.normal) × (g.constant ≡ pos 1)
point_of_multiple p g primitive positive m = by (multiple_of_primitive m.left m.right p g.normal m.nonzero primitive m.normals)
    (positive_is g.constant positive)
  where
    by : (k : ℤ) × (m.right ≡ m.left *ℤ k) × (p ≡ scaled k g.normal) → (c : ℕ) × (0 < c) × (g.constant ≡ pos c)
        → (p ≡ g.normal) × (g.constant ≡ pos 1)
    by (k, e, e') (c, h, s) = (e' ∙ ap (λ (z : ℤ). scaled z g.normal) (factor one) ∙ scaled-one g.normal, constant)
      where
        product : pos 1 ≡ k *ℤ g.constant
        product = cancel_left m.left (pos 1) (k *ℤ g.constant) m.nonzero (m.constants ∙ ap (λ (z : ℤ). z *ℤ g.constant) e
            ∙ *ℤ_assoc m.left k g.constant)

        constant : g.constant ≡ pos 1
        constant = s ∙ ap pos (divides_one c (k, ap (λ (z : ℤ). k *ℤ z) (sym s) ∙ sym product))

        one : k *ℤ pos 1 ≡ pos 1
        one = ap (λ (z : ℤ). k *ℤ z) (sym constant) ∙ sym product

        factor : k *ℤ pos 1 ≡ pos 1 → k ≡ pos 1
        factor t = sym (*ℤ-one k) ∙ t

module _ (n : ℕ) (points normals : List (List ℤ)) (solid : AreSolid n points) (reflexive : IsReflexive n points)
    (has : AreFacetNormals n points normals) where
  -- a point's function at the normal of a facet is the facet's value at the point
  pub swapped_value : (p : List ℤ) (f : Affine) → IsFacet n points f → value (with_one p) f.normal ≡ value f p
  swapped_value p f facet = swap (dot p f.normal) (dot f.normal p) f.constant (dot_comm p f.normal) (reflexive f facet)
    where
      swap : (a b c : ℤ) → a ≡ b → c ≡ pos 1 → a +ℤ pos 1 ≡ b +ℤ c
      swap a b c e e' = omega (arith, linear)

  -- the points have n coordinates
  pub point_dimension : (p : List ℤ) → In p points → length p ≡ n
  point_dimension p i = each_in (each_from_all (λ q. length q ≡ n) points solid.dimension) i

  -- a point's function is nonnegative on the normals
  pub point_supports : (p : List ℤ) → In p points → IsSupporting n normals (with_one p)
  point_supports p i = record {
    dimension = point_dimension p i;
    nonnegative = nonnegative_from normals (with_one p) (λ q j. at q (normal_of n points normals has q j));
  }
    where
      at : (q : List ℤ) → NormalOf n points q → pos 0 ≤ℤ value (with_one p) q
      at q s = nonnegative_same (sym (ap (value (with_one p)) s.is ∙ swapped_value p s.function s.facet))
          (nonnegative_at points s.function s.facet.nonnegative i)

  -- the constant of a facet of the normals is positive
  dual_constant : (g : Affine) → IsFacet n normals g → pos 0 <ℤ g.constant
  dual_constant g facet = by (positive_or_not g.constant)
    where
      high : (a b c : ℤ) → a ≡ b → c ≤ℤ pos 0 → pos 0 ≤ℤ (b +ℤ c) → pos 0 ≤ℤ a
      high a b c e h k = omega (arith, linear)

      by : (pos 0 <ℤ g.constant) ⊎ (g.constant ≤ℤ pos 0) → pos 0 <ℤ g.constant
      by (inl h) = h
      by (inr h) = absurd (primitive_nonzero g.normal facet.primitive (normals_surround_lem n points normals solid has g.normal
          facet.dimension (all_from_each (each_from_in normals (λ q i. high (dot q g.normal) (dot g.normal q) g.constant (dot_comm q g.normal) h
          (nonnegative_at normals g facet.nonnegative i))))))

  module _ (g : Affine) (facet : IsFacet n normals g) where
    -- the facets are nonnegative at the place x/c of a facet (x, c) of the normals: there they have its values at their normals
    at_place : (f : Affine) → IsFacet n points f → value_over f g.normal g.constant ≡ value g f.normal
    at_place f old = swap (dot f.normal g.normal) (dot g.normal f.normal) g.constant f.constant (dot_comm f.normal g.normal)
        (reflexive f old)
      where
        swap : (a b c d : ℤ) → a ≡ b → d ≡ pos 1 → a +ℤ c *ℤ d ≡ b +ℤ c
        swap a b c d e e' = rw (e, e') (simp products_out)

    -- a point on each facet that is 0 at x/c is x, and c is 1
    place_is : (p : List ℤ) → In p points → ((f : Affine) → IsFacet n points f → value_over f g.normal g.constant ≡ pos 0 → value f p ≡ pos 0)
        → (p ≡ g.normal) × (g.constant ≡ pos 1)
    place_is p i on = point_of_multiple p g facet.primitive (dual_constant g facet)
        (facet.determined (with_one p) (point_dimension p i) (λ q c z. at q z (normal_of n points normals has q (in_from_contains normals c))))
      where
        at : (q : List ℤ) → value g q ≡ pos 0 → NormalOf n points q → value (with_one p) q ≡ pos 0
        at q z s = ap (value (with_one p)) s.is ∙ swapped_value p s.function s.facet
            ∙ on s.function s.facet (at_place s.function s.facet ∙ ap (value g) (sym s.is) ∙ z)

    -- there is such a point: otherwise the sum of these facets would be at least 1 on the points, though 0 at x/c
    place_exists : (p : List ℤ) × In p points × ((f : Affine) → IsFacet n points f → value_over f g.normal g.constant ≡ pos 0 → value f p ≡ pos 0)
    place_exists = by (all_facets n points solid) (some_point n points solid)
      where
        by : AllFacets n points → (p : List ℤ) × In p points
            → (p : List ℤ) × In p points × ((f : Affine) → IsFacet n points f → value_over f g.normal g.constant ≡ pos 0 → value f p ≡ pos 0)
        by a (p, i) = at (facet_sum_at n points a.functions a.facets g.normal g.constant)
          where
            at : ZeroSum n points a.functions g.normal g.constant
                → (p : List ℤ) × In p points
                × ((f : Affine) → IsFacet n points f → value_over f g.normal g.constant ≡ pos 0 → value f p ≡ pos 0)
            at t = least (smallest_of (value t.function) points i)
              where
                less : Affine
                less = record { normal = t.function.normal; constant = t.function.constant -ℤ pos 1 }

                one_less : (a c m : ℤ) → pos 0 <ℤ m → m ≤ℤ (a +ℤ c) → pos 0 ≤ℤ (a +ℤ (c -ℤ pos 1))
                one_less a c m h k = omega (arith, linear)

                below : (a c d : ℤ) → pos 0 <ℤ d → a +ℤ d *ℤ c ≡ pos 0 → pos 0 ≤ℤ (a +ℤ d *ℤ (c -ℤ pos 1)) → ⊥
                below a c d h e k = let k' = simp products_out at k in let e' = simp products_out at e in absurd (omega (arith, linear))

                least : Smallest points (value t.function)
                    → (p : List ℤ) × In p points
                    × ((f : Affine) → IsFacet n points f → value_over f g.normal g.constant ≡ pos 0 → value f p ≡ pos 0)
                least s = cases (zero_or_not (value t.function s.place))
                  where
                    cases : (value t.function s.place ≡ pos 0) ⊎ (value t.function s.place ≢ pos 0)
                        → (p : List ℤ) × In p points
                        × ((f : Affine) → IsFacet n points f → value_over f g.normal g.constant ≡ pos 0 → value f p ≡ pos 0)
                    cases (inl e) = (s.place, s.inside, λ f old z. t.all s.place s.inside e f (a.all f old) z)
                    cases (inr n') = absurd (below (dot t.function.normal g.normal) t.function.constant g.constant (dual_constant g facet)
                        t.zero_there (sum_nonnegative n points less (facets_generate_lem n points solid less t.dimension
                        (nonnegative_from points less (λ q j. one_less (dot t.function.normal q) t.function.constant (value t.function s.place)
                        (positive_from (value t.function s.place) (t.nonnegative s.place s.inside) n') (s.least q j))))
                        g.normal g.constant (λ f old. nonnegative_same (sym (at_place f old))
                        (nonnegative_at normals g facet.nonnegative (normal_in n points normals has f old)))))

    -- so x is a vertex, and c is 1
    pub dual_facet_is_vertex : IsVertex n points g.normal × (g.constant ≡ pos 1)
    dual_facet_is_vertex = by place_exists
      where
        by : (p : List ℤ) × In p points × ((f : Affine) → IsFacet n points f → value_over f g.normal g.constant ≡ pos 0 → value f p ≡ pos 0)
            → IsVertex n points g.normal × (g.constant ≡ pos 1)
        by (p, i, on) = done (place_is p i on)
          where
            done : (p ≡ g.normal) × (g.constant ≡ pos 1) → IsVertex n points g.normal × (g.constant ≡ pos 1)
            done (e, one) = (
              (vertices_by_facets_lem n points solid g.normal (contains_from_in (subst (λ (x : List ℤ). In x points) e i))).1
                  (λ r c also. (place_is r (in_from_contains points c)
                  (λ f old z. also f old (ap (value f) (sym e) ∙ on f old z))).0),
              one,
            )
