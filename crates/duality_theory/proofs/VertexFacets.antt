-- A vertex v of a reflexive polytope gives the facet (v, 1) of the normals.
use Rattle.std.proofs.Common.{◌≡◌, ◌≢◌, ℕ, ◌<◌, ◌≤◌, List, length, ℤ, pos, negsuc, ◌+ℤ◌, ◌*ℤ◌, neg_ℤ, ◌≤ℤ◌, inl, refl, sym, ap, ◌∙◌, arith, ⊎_elim}
use Rattle.std.proofs.lemmas.Bool.{cases_eq, cases_lt}
use Rattle.std.proofs.lemmas.Int.{ints}
use Rattle.lattice_theory.specs.Vector.{entry, dot, scaled, IsPrimitive}
use Rattle.lattice_theory.specs.Affine.{Affine, value, value_over, VanishesWith, IsMultiple}
use Rattle.lattice_theory.specs.Facet.{IsFacet}
use Rattle.lattice_theory.specs.Hull.{IsVertex}
use Rattle.lattice_theory.proofs.Integers.{linear, products_out, one-*ℤ, *ℤ-one}
use Rattle.lattice_theory.proofs.Members.{In, all_from_each, each_from_in, in_from_contains, contains_from_in}
use Rattle.lattice_theory.proofs.Vectors.{dot_comm, dot-scaled_left, dot-combined_right, combined, length-combined, entry-combined}
use Rattle.lattice_theory.proofs.Vectors.{entry-scaled, length-scaled, entry_past, entry-unit_same, unit, length-unit, dot-unit, same_from_entries}
use Rattle.lattice_theory.proofs.Divisibility.{primitive_from_combination}
use Rattle.lattice_theory.proofs.Functions.{mixed, length-mixed, value-mixed, value_over-mixed}
use Rattle.facet_theory.specs.Solid.{AreSolid}
use Rattle.facet_theory.proofs.LeastVertex.{above_along}
use Rattle.facet_theory.proofs.Lifted.{value_at_one}
use Rattle.facet_theory.proofs.Listed.{all_facets}
use Rattle.facet_theory.proofs.Signs.{nonnegative_same, nonnegative_from}
use Rattle.facet_theory.proofs.Smallest.{Spread, find_spread}
use Rattle.facet_theory.proofs.Vertices.{vertices_by_facets_lem, zero_where_facets}
use Rattle.facet_theory.proofs.ZeroSums.{ZeroSum, facet_sum_at}
use Rattle.duality_theory.specs.Reflexive.{IsReflexive, AreFacetNormals, with_one}
use Rattle.duality_theory.proofs.FacetNormals.{normal_in}
use Rattle.duality_theory.proofs.DualFacets.{point_dimension, point_supports, swapped_value}

-- a vertex of any points, reflexive or not
module _ (n : ℕ) (points : List (List ℤ)) (solid : AreSolid n points) (v : List ℤ) (vertex : IsVertex n points v) where
  inside : In v points
  inside = in_from_contains points vertex.member

  -- a direction that is 0 on each facet on which v lies is 0 on each function that is nonnegative and 0 at v; so on each function
  module _ (y : List ℤ) (along : (f : Affine) → IsFacet n points f → value f v ≡ pos 0 → value_over f y (pos 0) ≡ pos 0) where
    -- the function with this normal that is 0 at v
    abbrev through : List ℤ → Affine
    through h = record { normal = h; constant = neg_ℤ (dot h v) }

    at_vertex : (h : List ℤ) → value (through h) v ≡ pos 0
    at_vertex h = opposite (dot h v)
      where
        opposite : (a : ℤ) → a +ℤ neg_ℤ a ≡ pos 0
        opposite a = omega (arith, linear)

    zero_on_direction : (t : ZeroSum n points (all_facets n points solid).functions v (pos 1)) (h : List ℤ) → length h ≡ n
        → dot h y ≡ pos 0
    zero_on_direction t h l = by (find_spread (value (through h)) points)
      where
        only : (q : List ℤ) → In q points → value t.function q ≡ pos 0 → value (through h) q ≡ pos 0
        only q i z = ap (value (through h)) ((vertices_by_facets_lem n points solid v vertex.member).0 vertex q (contains_from_in i)
            (λ f facet e. t.all q i z f ((all_facets n points solid).all f facet) (value_at_one f v ∙ e))) ∙ at_vertex h

        at_v : value t.function v ≡ pos 0
        at_v = sym (value_at_one t.function v) ∙ t.zero_there

        by : Spread points (value (through h)) → dot h y ≡ pos 0
        by b = last (pos b.number) (value_over t.function y (pos 0)) (dot h y) (neg_ℤ (dot h v))
            (zero_where_facets n points solid v y (pos 0) inside along t.function t.dimension (nonnegative_from points t.function t.nonnegative) at_v)
            (sym (value_over-mixed (pos b.number) t.function (pos 1) (through h) y (pos 0))
            ∙ zero_where_facets n points solid v y (pos 0) inside along u (length-mixed n (pos b.number) t.function (pos 1) (through h) t.dimension l)
            (nonnegative_from points u above) zero)
          where
            u : Affine
            u = mixed (pos b.number) t.function (pos 1) (through h)

            above : (q : List ℤ) → In q points → pos 0 ≤ℤ value u q
            above q i = nonnegative_same (sym (value-mixed (pos b.number) t.function (pos 1) (through h) q))
                (above_along (pos b.number) (pos 1) (value t.function q) (value (through h) q) (inl refl) (t.nonnegative q i) (only q i)
                (b.below q i) (b.above q i))

            sum : (m a c : ℤ) → a ≡ pos 0 → c ≡ pos 0 → m *ℤ a +ℤ pos 1 *ℤ c ≡ pos 0
            sum m a c e e' = rw (e, e') (simp products_out)

            zero : value u v ≡ pos 0
            zero = value-mixed (pos b.number) t.function (pos 1) (through h) v
                ∙ sum (pos b.number) (value t.function v) (value (through h) v) at_v (at_vertex h)

            last : (m a c d : ℤ) → a ≡ pos 0 → m *ℤ a +ℤ pos 1 *ℤ (c +ℤ pos 0 *ℤ d) ≡ pos 0 → c ≡ pos 0
            last m a c d e k = let k' = simp products_out at (rw e at k) in omega (arith, linear)

    -- so it is 0
    pub direction_is_zero : length y ≡ n → (i : ℕ) → entry y i ≡ pos 0
    direction_is_zero l i = ⊎_elim
        (λ (b : i < n). sym (dot-unit n i y b) ∙ zero_on_direction t (unit n i) (length-unit n i))
        (λ (b : n ≤ i). entry_past y i (omega arith))
        (cases_lt i n)
      where
        t : ZeroSum n points (all_facets n points solid).functions v (pos 1)
        t = facet_sum_at n points (all_facets n points solid).functions (all_facets n points solid).facets v (pos 1)

  -- where v lies on no facet, every point is v, so the points are flat
  pub some_facet_at : ((f : Affine) → IsFacet n points f → value f v ≡ pos 0 → ⊥) → ⊥
  some_facet_at none = solid.solid (record {
    function = record { normal = unit n 0; constant = neg_ℤ (dot (unit n 0) v) };
    dimension = length-unit n 0;
    nonconstant = (0, λ e. one_nonzero (sym (entry-unit_same n 0 solid.coordinates) ∙ e));
    vanishes = all_from_each (each_from_in points (λ p i. same (dot (unit n 0) p) (dot (unit n 0) v) (ap (dot (unit n 0)) (only p i))));
  })
    where
      one_nonzero : pos 1 ≡ pos 0 → ⊥
      one_nonzero e = absurd (omega (arith, linear))

      same : (a b : ℤ) → a ≡ b → a +ℤ neg_ℤ b ≡ pos 0
      same a b e = omega (arith, linear)

      only : (p : List ℤ) → In p points → p ≡ v
      only p i = (vertices_by_facets_lem n points solid v vertex.member).0 vertex p (contains_from_in i)
          (λ f facet e. absurd (none f facet e))

module _ (n : ℕ) (points normals : List (List ℤ)) (solid : AreSolid n points) (reflexive : IsReflexive n points)
    (has : AreFacetNormals n points normals) (v : List ℤ) (vertex : IsVertex n points v) where
  minus_one : (a c : ℤ) → c ≡ pos 1 → a +ℤ c ≡ pos 0 → negsuc 0 *ℤ a ≡ pos 1
  minus_one a c e z = let s : a ≡ negsuc 0 = omega (arith, linear) in rw s refl

  -- some facet is -1 at v without its constant, so v is primitive
  vertex_primitive : IsPrimitive v
  vertex_primitive d h = ⊎_elim (λ (e : d ≡ 1). e) (λ (n' : d ≢ 1). absurd (some_facet_at n points solid v vertex
      (λ f facet z. n' (primitive_from_combination (scaled (negsuc 0) f.normal) v (dot-scaled_left (negsuc 0) f.normal v
      ∙ minus_one (dot f.normal v) f.constant (reflexive f facet) z) d h)))) (cases_eq d 1)

  -- a function that vanishes on the normals of the facets on which v lies is a multiple of (v, 1)
  vertex_determines : (g : Affine) → length g.normal ≡ n → VanishesWith normals (with_one v) g → IsMultiple g (with_one v)
  vertex_determines g l with = record {
    left = pos 1;
    right = g.constant;
    nonzero = λ e. one_nonzero e;
    normals = same_from_entries (scaled (pos 1) g.normal) (scaled g.constant v) lengths entries;
    constants = one-*ℤ g.constant ∙ sym (*ℤ-one g.constant);
  }
    where
      one_nonzero : pos 1 ≡ pos 0 → ⊥
      one_nonzero e = absurd (omega (arith, linear))

      v_length : length v ≡ n
      v_length = point_dimension n points normals solid reflexive has v (in_from_contains points vertex.member)

      y : List ℤ
      y = combined (pos 1) g.normal (neg_ℤ g.constant) v

      lengths : length (scaled (pos 1) g.normal) ≡ length (scaled g.constant v)
      lengths = length-scaled (pos 1) g.normal ∙ l ∙ sym v_length ∙ sym (length-scaled g.constant v)

      -- <f, x - c v> = -c + c
      cancels : (s a b c one d k : ℤ) → s ≡ pos 1 *ℤ a +ℤ neg_ℤ c *ℤ b → one ≡ pos 1 → b +ℤ one ≡ pos 0 → d ≡ a → d +ℤ c ≡ pos 0
          → s +ℤ pos 0 *ℤ k ≡ pos 0
      cancels s a b c one d k e o z e' z' =
          let b' : b ≡ negsuc 0 = omega (arith, linear) in let a' : a ≡ neg_ℤ c = omega (arith, linear) in
          rw (e, a', b') (simp products_out (omega (arith, ints)))

      along : (f : Affine) → IsFacet n points f → value f v ≡ pos 0 → value_over f y (pos 0) ≡ pos 0
      along f facet z = cancels (dot f.normal y) (dot f.normal g.normal) (dot f.normal v) g.constant f.constant (dot g.normal f.normal) f.constant
          (dot-combined_right f.normal (pos 1) g.normal (neg_ℤ g.constant) v) (reflexive f facet) z (dot_comm g.normal f.normal)
          (with f.normal (contains_from_in (normal_in n points normals has f facet))
          (swapped_value n points normals solid reflexive has v f facet ∙ z))

      entries : (i : ℕ) → entry (scaled (pos 1) g.normal) i ≡ entry (scaled g.constant v) i
      entries i = same (entry (scaled (pos 1) g.normal) i) (entry (scaled g.constant v) i) (entry g.normal i) (entry v i) (entry y i) g.constant
          (entry-scaled (pos 1) g.normal i) (entry-scaled g.constant v i) (entry-combined (pos 1) g.normal (neg_ℤ g.constant) v i)
          (direction_is_zero n points solid v vertex y along (length-combined n (pos 1) g.normal (neg_ℤ g.constant) v l v_length) i)
        where
          same : (a b x w s c : ℤ) → a ≡ pos 1 *ℤ x → b ≡ c *ℤ w → s ≡ pos 1 *ℤ x +ℤ neg_ℤ c *ℤ w → s ≡ pos 0 → a ≡ b
          same a b x w s c e e' k z = let k' = simp products_out at (sym k ∙ z) in let e'' = simp products_out at e in omega (arith, ints)

  -- the facet of a vertex
  pub vertex_gives_facet : IsFacet n normals (with_one v)
  vertex_gives_facet =
      let s = point_supports n points normals solid reflexive has v (in_from_contains points vertex.member) in
      record { dimension = s.dimension; primitive = vertex_primitive; nonnegative = s.nonnegative; determined = vertex_determines }
