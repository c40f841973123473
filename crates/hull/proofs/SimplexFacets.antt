-- The facets of a simplex are the functions that are positive at one corner and 0 at the others.
use Rattle.std.proofs.Common.{◌≡◌, ◌≢◌, ◌⊎◌, inl, inr, ⊎_elim, ℕ, suc, ◌+◌, ◌<◌, List, [], ◌∷◌, length, ℤ, pos, ◌+ℤ◌, ◌*ℤ◌}
use Rattle.std.proofs.Common.{neg_ℤ, ◌≤ℤ◌, ◌<ℤ◌, sym, ap, ◌∙◌, subst, arith, Contains, AllPairs}
use Rattle.std.proofs.lemmas.List.{get_or_default}
use Rattle.std.proofs.lemmas.Bool.Decides.{eqb_tells}
use Rattle.lattice_theory.specs.Vector.{dot, IsPrimitive}
use Rattle.lattice_theory.specs.Affine.{Affine, value, value_over, VanishesWith}
use Rattle.lattice_theory.specs.Facet.{IsFacet}
use Rattle.lattice_theory.proofs.Integers.{products_out, linear, positive_nonzero}
use Rattle.lattice_theory.proofs.Members.{In, in_from_contains, contains_from_in}
use Rattle.lattice_theory.proofs.Functions.{mixed, length-mixed, value-mixed, value_over-mixed}
use Rattle.facet_theory.specs.Solid.{AreSolid}
use Rattle.facet_theory.proofs.Rays.{IsMultipleOf}
use Rattle.facet_theory.proofs.Lifted.{vector_of, lifted, from_lifted, lifted_value, lifted_value_over, lifted_solid, multiple_from_vectors}
use Rattle.facet_theory.proofs.Signs.{nonnegative_same, nonnegative_weaker, nonnegative_from, cancelled}
use Rattle.facet_theory.proofs.Different.{facet_positive, facets_differ_lem}
use Rattle.hull_growth.specs.Grown.{HasFacets}
use Rattle.hull.specs.steps.Tight.{function_of}
use Rattle.hull.specs.steps.Facing.{corner_of, AreFacing}

module _ (n : ℕ) (corners : List (List ℤ)) (solid : AreSolid n corners) where
  -- a function that vanishes at each corner is 0 everywhere
  zero_everywhere : (u : Affine) → length u.normal ≡ n → ((x : List ℤ) → In x corners → value u x ≡ pos 0) → (y : List ℤ)
      → dot (vector_of u) y ≡ pos 0
  zero_everywhere u e h = (lifted_solid n corners solid).only_zero (vector_of u) (ap suc e) at
    where
      at : (v : List ℤ) → In v (lifted corners) → dot (vector_of u) v ≡ pos 0
      at v i = by (from_lifted corners v i)
        where
          by : (p : List ℤ) × In p corners × (v ≡ pos 1 ∷ p) → dot (vector_of u) v ≡ pos 0
          by (p, j, k) = ap (dot (vector_of u)) k ∙ lifted_value u p ∙ h p j

  -- a function that is positive at one corner and 0 at the others
  module _ (f : Affine) (q : List ℤ) (long : length f.normal ≡ n) (primitive : IsPrimitive f.normal) (away : pos 0 <ℤ value f q)
      (on : (x : List ℤ) → In x corners → (value f x ≡ pos 0) ⊎ (x ≡ q)) where
    -- what vanishes where it does is a multiple of it: f(q) g - g(q) f vanishes at each corner
    multiple : (g : Affine) → length g.normal ≡ n → VanishesWith corners f g → IsMultipleOf (vector_of g) (vector_of f)
    multiple g l w = record { left = value f q; right = value g q; nonzero = positive_nonzero (value f q) away; same = same }
      where
        both : Affine
        both = mixed (value f q) g (neg_ℤ (value g q)) f

        zero_terms : (a b c d : ℤ) → c ≡ pos 0 → d ≡ pos 0 → a *ℤ c +ℤ b *ℤ d ≡ pos 0
        zero_terms a b c d e e' = rw (e, e') (simp products_out (omega (arith, linear)))

        at : (x : List ℤ) → In x corners → value both x ≡ pos 0
        at x i = value-mixed (value f q) g (neg_ℤ (value g q)) f x ∙ ⊎_elim
            (λ (z : value f x ≡ pos 0). zero_terms (value f q) (neg_ℤ (value g q)) (value g x) (value f x) (w x (contains_from_in i) z) z)
            (λ (e : x ≡ q). subst (λ (y : List ℤ). value f q *ℤ value g y +ℤ neg_ℤ (value g q) *ℤ value f y ≡ pos 0) (sym e)
            (cancelled (value f q) (value g q)))
            (on x i)

        split : (a b c d : ℤ) → a *ℤ c +ℤ neg_ℤ b *ℤ d ≡ pos 0 → a *ℤ c ≡ b *ℤ d
        split a b c d e = let e' = simp products_out at e in omega (arith, linear)

        same : (y : List ℤ) → value f q *ℤ dot (vector_of g) y ≡ value g q *ℤ dot (vector_of f) y
        same [] = simp products_out
        same (d ∷ x) = ap (λ (z : ℤ). value f q *ℤ z) (lifted_value_over g x d)
            ∙ split (value f q) (value g q) (value_over g x d) (value_over f x d)
            (sym (value_over-mixed (value f q) g (neg_ℤ (value g q)) f x d) ∙ sym (lifted_value_over both x d)
            ∙ zero_everywhere both (length-mixed n (value f q) g (neg_ℤ (value g q)) f l long) at (d ∷ x))
            ∙ ap (λ (z : ℤ). value g q *ℤ z) (sym (lifted_value_over f x d))

    pub corner_facet : IsFacet n corners f
    corner_facet = record {
      dimension = long;
      primitive = primitive;
      nonnegative = nonnegative_from corners f (λ x i. ⊎_elim
          (λ (z : value f x ≡ pos 0). nonnegative_same (sym z) (omega (arith, linear)))
          (λ (e : x ≡ q). subst (λ (y : List ℤ). pos 0 ≤ℤ value f y) (sym e) (nonnegative_weaker away)) (on x i));
      determined = λ g l w. multiple_from_vectors n g f l long (multiple g l w);
    }

    -- a facet that is positive at that corner is this one
    pub same_facet : (g : Affine) → IsFacet n corners g → pos 0 <ℤ value g q → g ≡ f
    same_facet g facet positive = facets_differ_lem n corners solid g f facet corner_facet (λ x c z. ⊎_elim
        (λ (k : value f x ≡ pos 0). k)
        (λ (e : x ≡ q). absurd (positive_nonzero (value g q) positive (subst (λ (y : List ℤ). value g y ≡ pos 0) e z)))
        (on x (in_from_contains corners c)))

-- two places are the same or not
pub same_or_apart : (a b : ℕ) → (a ≡ b) ⊎ (a ≢ b)
same_or_apart a b = ⊎_elim (λ h. inl h.1) (λ h. inr h.1) (eqb_tells a b)

-- of a simplex with functions that face its corners
module _ (n : ℕ) (corners : List (List ℤ)) (functions : List Affine) (facing : AreFacing n corners functions) where
  pub corner_at : (i : ℕ) → i < n + 1 → Contains corners (corner_of corners i)
  corner_at i h = (i, (let c = facing.corner_count in omega arith), get_or_default corners i _ [] (let c = facing.corner_count in omega arith))

  -- at each corner the function is 0, or it is its own
  pub facing_on : (i : ℕ) → i < n + 1 → (x : List ℤ) → In x corners → (value (function_of functions i) x ≡ pos 0) ⊎ (x ≡ corner_of corners i)
  facing_on i h x m = by (contains_from_in m)
    where
      by : Contains corners x → (value (function_of functions i) x ≡ pos 0) ⊎ (x ≡ corner_of corners i)
      by (j, l, e) = ⊎_elim
          (λ (same : i ≡ j). inr (sym is ∙ ap (corner_of corners) (sym same)))
          (λ (apart : i ≢ j). inl (subst (λ (y : List ℤ). value (function_of functions i) y ≡ pos 0) is
          (facing.on i j h (let c = facing.corner_count in omega arith) apart)))
          (same_or_apart i j)
        where
          is : corner_of corners j ≡ x
          is = get_or_default corners j [] x l ∙ e

  module _ (solid : AreSolid n corners) where
    pub facing_facet : (i : ℕ) → i < n + 1 → IsFacet n corners (function_of functions i)
    facing_facet i h = corner_facet n corners solid (function_of functions i) (corner_of corners i) (facing.dimension i h) (facing.primitive i h)
        (facing.away i h) (facing_on i h)

    every_facet : (g : Affine) → IsFacet n corners g → Contains functions g
    every_facet g facet = by (facet_positive n corners solid g facet)
      where
        by : (p : List ℤ) × In p corners × (pos 0 <ℤ value g p) → Contains functions g
        by (p, m, positive) = found (contains_from_in m)
          where
            found : Contains corners p → Contains functions g
            found (j, l, e) = (
              j,
              (let c = facing.corner_count in let d = facing.function_count in omega arith),
              get_or_default functions j g _ (let c = facing.corner_count in let d = facing.function_count in omega arith) ∙ sym same,
            )
              where
                below : j < n + 1
                below = let c = facing.corner_count in omega arith

                same : g ≡ function_of functions j
                same = same_facet n corners solid (function_of functions j) (corner_of corners j) (facing.dimension j below)
                    (facing.primitive j below) (facing.away j below) (facing_on j below) g facet
                    (subst (λ (y : List ℤ). pos 0 <ℤ value g y) (sym (get_or_default corners j [] p l ∙ e)) positive)

    -- the functions are the facets, each once
    pub facing_facets : HasFacets n corners functions
    facing_facets = record { once = apart; members = λ g. (listed g, every_facet g) }
      where
        listed : (g : Affine) → Contains functions g → IsFacet n corners g
        listed g (j, l, e) = subst (IsFacet n corners) (get_or_default functions j _ g l ∙ e)
            (facing_facet j (let c = facing.function_count in omega arith))

        apart : AllPairs (λ f g. f ≢ g) functions
        apart i j d h l e = positive_nonzero (value (function_of functions i) (corner_of corners i)) (facing.away i first)
            (ap (λ (f : Affine). value f (corner_of corners i)) same ∙ facing.on j i second first (λ k. absurd (omega arith)))
          where
            first : i < n + 1
            first = let c = facing.function_count in omega arith

            second : j < n + 1
            second = let c = facing.function_count in omega arith

            same : function_of functions i ≡ function_of functions j
            same = get_or_default functions i _ d (omega arith) ∙ e ∙ get_or_default functions j d _ l
