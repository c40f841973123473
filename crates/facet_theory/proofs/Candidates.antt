-- The facets whose zeros are some given points: none, or a kernel's only vector or its negative, divided by the gcd of the normal.
use Rattle.std.proofs.Common.{◌≡◌, ◌≢◌, ℕ, suc, List, [], ◌∷◌, ◌++◌, length, ℤ, pos, ◌*ℤ◌, neg_ℤ, ◌≤ℤ◌, ◌<ℤ◌, ◌⊎◌, inl, inr, sym, ap, ◌∙◌, subst, arith}
use Rattle.lattice_theory.specs.Vector.{dot, scaled, IsVectorMultiple}
use Rattle.lattice_theory.specs.Affine.{Affine, value}
use Rattle.lattice_theory.specs.Facet.{IsFacet}
use Rattle.elimination.specs.Elimination.{Member, Annihilates, IsKernel, ArePivots}
use Rattle.lattice_theory.proofs.Integers.{products_out, linear, negative_or_not, positive_or_negative, product_nonnegative, product_nonzero, positive_nonzero, nonnegative_factor, factor_zero}
use Rattle.lattice_theory.proofs.Members.{In, here, there, Each, empty, more, all_from_each, each_from_all, each_in, each_from_in, each_head, each_tail, each_append, in_append_left, in_append_right}
use Rattle.lattice_theory.proofs.Vectors.{dot-scaled_left, length-scaled}
use Rattle.elimination.proofs.KernelLaws.{kernel_exists_lem}
use Rattle.elimination.proofs.KernelSize.{empty_kernel_lem, single_kernel_lem, large_kernel_lem}
use Rattle.facet_theory.specs.Solid.{AreSolid}
use Rattle.facet_theory.proofs.Values.{IsAbove, VanishesAlong, Nonzero, find_nonzero}
use Rattle.facet_theory.proofs.Rays.{IsMultipleOf, multiple_of, multiple_through}
use Rattle.facet_theory.proofs.Lifted.{vector_of, lifted, in_lifted, lifted_value, lifted_dimension, above_from_nonnegative, multiple_from_vectors}
use Rattle.facet_theory.proofs.FacetOfRay.{FacetOf, facet_of_ray}
use Rattle.facet_theory.proofs.Different.{facet_positive, same_from_multiple}
use Rattle.facet_theory.proofs.FacetPoints.{facet_determines, facet_nonzero}
use Rattle.facet_theory.proofs.Signs.{nonnegative_same, nonnegative_weaker}

-- a function is nonnegative on S or somewhere negative
record Negative (S : List (List ℤ)) (f : List ℤ) : Type 0 where
  place : List ℤ
  inside : In place S
  negative : dot f place <ℤ pos 0

-- which of the two
find_negative : (S : List (List ℤ)) (f : List ℤ) → IsAbove S f ⊎ Negative S f
find_negative [] f = inl (record { at = λ v i. elim i [ ] })
find_negative (v ∷ S) f = by (negative_or_not (dot f v)) (find_negative S f)
  where
    by : (dot f v <ℤ pos 0) ⊎ (pos 0 ≤ℤ dot f v) → IsAbove S f ⊎ Negative S f → IsAbove (v ∷ S) f ⊎ Negative (v ∷ S) f
    by (inl n) r = inr (record { place = v; inside = here; negative = n })
    by (inr p) (inr n) = inr (record { place = n.place; inside = there n.inside; negative = n.negative })
    by (inr p) (inl h) = inl (record { at = all })
      where
        all : (w : List ℤ) → In w (v ∷ S) → pos 0 ≤ℤ dot f w
        all w here = p
        all w (there i) = h.at w i

-- a positive multiple of f is a positive multiple of r
record IsAlong (f r : List ℤ) : Type 0 where
  left : ℤ
  left_positive : pos 0 <ℤ left
  right : ℤ
  right_positive : pos 0 <ℤ right
  same : (y : List ℤ) → left *ℤ dot f y ≡ right *ℤ dot r y

-- the facets along r, at most one
record Along (n : ℕ) (points : List (List ℤ)) (r : List ℤ) : Type 0 where
  functions : List Affine
  facets : Each (IsFacet n points) functions
  all : (f : Affine) → IsFacet n points f → IsAlong (vector_of f) r → In f functions

-- a function along which a facet lies is nonnegative
along_above : (n : ℕ) (points : List (List ℤ)) (r : List ℤ) (f : Affine) → IsFacet n points f → IsAlong (vector_of f) r
    → IsAbove (lifted points) r
along_above n points r f facet h = record {
  at = λ v i. nonnegative_factor h.right (dot r v) h.right_positive
      (nonnegative_same (h.same v) (product_nonnegative h.left (dot (vector_of f) v) (nonnegative_weaker h.left_positive) (above.at v i)));
}
  where
    above : IsAbove (lifted points) (vector_of f)
    above = above_from_nonnegative points f facet.nonnegative

-- a facet along r is the facet of the ray r
along_same : (n : ℕ) (points : List (List ℤ)) → AreSolid n points → (r : List ℤ) → (g : FacetOf n points r) → (f : Affine)
    → IsFacet n points f
    → IsAlong (vector_of f) r → g.function ≡ f
along_same n points solid r g f facet h = same_from_multiple n points solid g.function f g.facet facet.primitive facet.nonnegative
    (multiple_from_vectors n f g.function facet.dimension g.facet.dimension
    (multiple_through (vector_of f) r (vector_of g.function) (pos g.factor) multiple g.same))
  where
    multiple : IsMultipleOf (vector_of f) r
    multiple = record { left = h.left; right = h.right; nonzero = positive_nonzero h.left h.left_positive; same = h.same }

-- the facets along r are found by the test
along_ray : (n : ℕ) (points : List (List ℤ)) → AreSolid n points → (r : List ℤ) → length r ≡ suc n → Nonzero (lifted points) r
    → ((g : List ℤ) → length g ≡ suc n → VanishesAlong (lifted points) r g → IsMultipleOf g r) → Along n points r
along_ray n points solid r l somewhere determined = by (find_negative (lifted points) r)
  where
    found : FacetOf n points r → Along n points r
    found g = record {
      functions = g.function ∷ [];
      facets = more g.facet empty;
      all = λ f facet h. subst (λ (x : Affine). In x (g.function ∷ [])) (along_same n points solid r g f facet h) here;
    }

    clash : (a : ℤ) → a <ℤ pos 0 → pos 0 ≤ℤ a → ⊥
    clash a h k = absurd (omega (arith, linear))

    by : IsAbove (lifted points) r ⊎ Negative (lifted points) r → Along n points r
    by (inl above) = found (facet_of_ray n points solid.coordinates r (record {
      long = l;
      above = above;
      somewhere = somewhere;
      determined = determined;
    }))
    by (inr n') = record {
      functions = [];
      facets = empty;
      all = λ f facet h. absurd (clash (dot r n'.place) n'.negative ((along_above n points r f facet h).at n'.place n'.inside));
    }

-- the facets with the zeros that are given: functions that are 0 on them, and nowhere else among the points
pub record WithZeros (points chosen : List (List ℤ)) (f : Affine) : Type 0 where
  pub on : (v : List ℤ) → In v chosen → dot (vector_of f) v ≡ pos 0
  pub all : (v : List ℤ) → In v (lifted points) → dot (vector_of f) v ≡ pos 0 → In v chosen

-- a list of facets, with all that have these zeros
pub record Candidates (n : ℕ) (points chosen : List (List ℤ)) : Type 0 where
  pub functions : List Affine
  pub facets : Each (IsFacet n points) functions
  pub all : (f : Affine) → IsFacet n points f → WithZeros points chosen f → In f functions

-- a facet with these zeros annihilates them
with_zeros_annihilates : (points chosen : List (List ℤ)) (f : Affine) → WithZeros points chosen f → Annihilates chosen (vector_of f)
with_zeros_annihilates points chosen f h = all_from_each (each_from_in chosen h.on)

-- a vector that annihilates the chosen ones is a multiple of each facet with these zeros
chosen_multiple : (n : ℕ) (points chosen : List (List ℤ)) (f : Affine) → IsFacet n points f → WithZeros points chosen f → (k : List ℤ)
    → length k ≡ suc n → Annihilates chosen k → IsVectorMultiple k (vector_of f)
chosen_multiple n points chosen f facet h k l a = facet_determines n points f facet k l
    (record { at = λ v i z. each_in (each_from_all (λ w. dot k w ≡ pos 0) chosen a) (h.all v i z) })

-- an equation with both factors negated, and with a negative in the place of a number
negated : (q p a b : ℤ) → q *ℤ a ≡ p *ℤ b → neg_ℤ q *ℤ a ≡ neg_ℤ p *ℤ b
negated q p a b e = simp products_out (omega (arith, linear))

-- the right number is replaced by its negative
moved_right : (q p a b c : ℤ) → q *ℤ a ≡ p *ℤ b → c ≡ neg_ℤ (pos 1) *ℤ b → q *ℤ a ≡ neg_ℤ p *ℤ c
moved_right q p a b c e e' = rw e' (simp products_out (omega (arith, linear)))

-- the same with the left factor negated
moved_left : (q p a b c : ℤ) → q *ℤ a ≡ p *ℤ b → c ≡ neg_ℤ (pos 1) *ℤ b → neg_ℤ q *ℤ a ≡ p *ℤ c
moved_left q p a b c e e' = rw e' (simp products_out (omega (arith, linear)))

-- signs: a multiple of k is along k or along its negative
multiple_along : (f k : List ℤ) → IsMultipleOf f k → (s : List ℤ) → dot f s ≢ pos 0 → IsAlong f k ⊎ IsAlong f (scaled (neg_ℤ (pos 1)) k)
multiple_along f k m s n = by (positive_or_negative m.left m.nonzero) (positive_or_negative m.right right_nonzero)
  where
    right_nonzero : m.right ≢ pos 0
    right_nonzero e = n (factor_zero m.left (dot f s) m.nonzero (m.same s ∙ ap (λ (z : ℤ). z *ℤ dot k s) e ∙ simp products_out))

    opposite : (y : List ℤ) → dot (scaled (neg_ℤ (pos 1)) k) y ≡ neg_ℤ (pos 1) *ℤ dot k y
    opposite y = dot-scaled_left (neg_ℤ (pos 1)) k y

    by : (pos 0 <ℤ m.left) ⊎ (pos 0 <ℤ neg_ℤ m.left) → (pos 0 <ℤ m.right) ⊎ (pos 0 <ℤ neg_ℤ m.right)
        → IsAlong f k ⊎ IsAlong f (scaled (neg_ℤ (pos 1)) k)
    by (inl p) (inl q) = inl (record { left = m.left; left_positive = p; right = m.right; right_positive = q; same = m.same })
    by (inr p) (inr q) = inl (record {
      left = neg_ℤ m.left;
      left_positive = p;
      right = neg_ℤ m.right;
      right_positive = q;
      same =
          λ y. negated m.left m.right (dot f y) (dot k y) (m.same y);
    })
    by (inl p) (inr q) = inr (record {
      left = m.left;
      left_positive = p;
      right = neg_ℤ m.right;
      right_positive = q;
      same =
          λ y. moved_right m.left m.right (dot f y) (dot k y) (dot (scaled (neg_ℤ (pos 1)) k) y) (m.same y) (opposite y);
    })
    by (inr p) (inl q) = inr (record {
      left = neg_ℤ m.left;
      left_positive = p;
      right = m.right;
      right_positive = q;
      same =
          λ y. moved_left m.left m.right (dot f y) (dot k y) (dot (scaled (neg_ℤ (pos 1)) k) y) (m.same y) (opposite y);
    })

-- a facet isn't 0 at some vector
facet_somewhere : (n : ℕ) (points : List (List ℤ)) → AreSolid n points → (f : Affine) → IsFacet n points f
    → Nonzero (lifted points) (vector_of f)
facet_somewhere n points solid f facet = by (facet_positive n points solid f facet)
  where
    by : (p : List ℤ) × In p points × (pos 0 <ℤ value f p) → Nonzero (lifted points) (vector_of f)
    by (p, i, q) = record {
      place = pos 1 ∷ p;
      inside = in_lifted i;
      nonzero = λ e. positive_nonzero (value f p) q (sym (lifted_value f p) ∙ e);
    }

-- one member of the kernel: it and its negative
single_candidates : (n : ℕ) (points chosen : List (List ℤ)) → AreSolid n points → ((v : List ℤ) → In v chosen → In v (lifted points))
    → (k : Member)
    → IsKernel (suc n) chosen (k ∷ []) → Nonzero (lifted points) k.vector → Candidates n points chosen
single_candidates n points chosen solid among k h somewhere = both
    (along_ray n points solid k.vector long somewhere (λ g l a. multiple_of g k.vector
    (single_kernel_lem (suc n) chosen k h g l (annihilates g (λ v z. z) a))))
    (along_ray n points solid minus (length-scaled (neg_ℤ (pos 1)) k.vector ∙ long)
    (record {
      place = somewhere.place;
      inside = somewhere.inside;
      nonzero = λ e. product_nonzero (neg_ℤ (pos 1))
          (dot k.vector somewhere.place) minus_one_nonzero somewhere.nonzero (sym (opposite somewhere.place) ∙ e);
    })
    (λ g l a. of_minus g (multiple_of g k.vector (single_kernel_lem (suc n) chosen k h g l (annihilates g zero_opposite a)))))
  where
    minus : List ℤ
    minus = scaled (neg_ℤ (pos 1)) k.vector

    opposite : (y : List ℤ) → dot minus y ≡ neg_ℤ (pos 1) *ℤ dot k.vector y
    opposite y = dot-scaled_left (neg_ℤ (pos 1)) k.vector y

    long : length k.vector ≡ suc n
    long = each_head (each_from_all (λ (k : Member). length k.vector ≡ suc n) (k ∷ []) h.lengths)

    kills : Annihilates chosen k.vector
    kills = each_head (each_from_all (λ (k : Member). Annihilates chosen k.vector) (k ∷ []) h.annihilate)

    minus_one_nonzero : neg_ℤ (pos 1) ≢ pos 0
    minus_one_nonzero e = absurd (omega (arith, linear))

    zero_opposite : (v : List ℤ) → dot k.vector v ≡ pos 0 → dot minus v ≡ pos 0
    zero_opposite v z = opposite v ∙ ap (λ (z : ℤ). neg_ℤ (pos 1) *ℤ z) z

    annihilates : {r : List ℤ} (g : List ℤ) → ((v : List ℤ) → dot k.vector v ≡ pos 0 → dot r v ≡ pos 0) → VanishesAlong (lifted points) r g
        → Annihilates chosen g
    annihilates g same a = all_from_each
        (each_from_in chosen (λ v i. a.at v (among v i) (same v (each_in (each_from_all (λ w. dot k.vector w ≡ pos 0) chosen kills) i))))

    of_minus : (g : List ℤ) → IsMultipleOf g k.vector → IsMultipleOf g minus
    of_minus g m = record {
      left = m.left;
      right = neg_ℤ m.right;
      nonzero = m.nonzero;
      same = λ y. moved_right m.left m.right (dot g y) (dot k.vector y) (dot minus y) (m.same y) (opposite y);
    }

    both : Along n points k.vector → Along n points minus → Candidates n points chosen
    both a b = record {
      functions = a.functions ++ b.functions;
      facets = each_append a.facets b.facets;
      all = λ f facet z. by f facet (multiple_along (vector_of f) k.vector
          (multiple_of (vector_of f) k.vector (single_kernel_lem (suc n) chosen k h (vector_of f) (ap suc facet.dimension)
          (with_zeros_annihilates points chosen f z))) (facet_somewhere n points solid f facet).place
          (facet_somewhere n points solid f facet).nonzero);
    }
      where
        by : (f : Affine) → IsFacet n points f → IsAlong (vector_of f) k.vector ⊎ IsAlong (vector_of f) minus
            → In f (a.functions ++ b.functions)
        by f facet (inl h) = in_append_left b.functions (a.all f facet h)
        by f facet (inr h) = in_append_right a.functions (b.all f facet h)

-- no facet has these zeros
no_candidates : (n : ℕ) (points chosen : List (List ℤ)) → ((f : Affine) → IsFacet n points f → WithZeros points chosen f → ⊥)
    → Candidates n points chosen
no_candidates n points chosen h = record { functions = []; facets = empty; all = λ f facet z. absurd (h f facet z) }

-- the facets with given zeros are a list, by the members of the kernel
pub candidates : (n : ℕ) (points chosen : List (List ℤ)) → AreSolid n points → ((v : List ℤ) → In v chosen → In v (lifted points))
    → Candidates n points chosen
candidates n points chosen solid among = by kernel.0 kernel.2
  where
    kernel : (ks : List Member) × (pivots : List (List ℤ)) × IsKernel (suc n) chosen ks × ArePivots (suc n) chosen pivots ks
    kernel = kernel_exists_lem (suc n) chosen
        (all_from_each (each_from_in chosen (λ v i. lifted_dimension n points solid.dimension v (among v i))))

    single : (k : Member) → IsKernel (suc n) chosen (k ∷ []) → ((v : List ℤ) → In v (lifted points) → dot k.vector v ≡ pos 0) ⊎ Nonzero
        (lifted points) k.vector → Candidates n points chosen
    single k h (inr s) = single_candidates n points chosen solid among k h s
    single k h (inl z) = no_candidates n points chosen (λ f facet w. nowhere f (facet_somewhere n points solid f facet)
        (multiple_of (vector_of f) k.vector (single_kernel_lem (suc n) chosen k h (vector_of f) (ap suc facet.dimension)
        (with_zeros_annihilates points chosen f w))))
      where
        nowhere : (f : Affine) → Nonzero (lifted points) (vector_of f) → IsMultipleOf (vector_of f) k.vector → ⊥
        nowhere f s m = s.nonzero (factor_zero m.left (dot (vector_of f) s.place) m.nonzero
            (m.same s.place ∙ ap (λ (x : ℤ). m.right *ℤ x) (z s.place s.inside) ∙ simp products_out))

    by : (ks : List Member) → IsKernel (suc n) chosen ks → Candidates n points chosen
    by [] h = no_candidates n points chosen (λ f facet z. facet_nonzero f n points facet
        (empty_kernel_lem (suc n) chosen h (vector_of f) (ap suc facet.dimension) (with_zeros_annihilates points chosen f z)))
    by (k ∷ []) h = single k h (find_nonzero (lifted points) k.vector)
    by (k ∷ (l ∷ ks)) h = no_candidates n points chosen (λ f facet z. large_kernel_lem (suc n) chosen k l ks h (vector_of f)
        (chosen_multiple n points chosen f facet z k.vector (each_head lengths) (each_head kills))
        (chosen_multiple n points chosen f facet z l.vector (each_head (each_tail lengths)) (each_head (each_tail kills))))
      where
        lengths : Each (λ (k : Member). length k.vector ≡ suc n) (k ∷ (l ∷ ks))
        lengths = each_from_all (λ (k : Member). length k.vector ≡ suc n) (k ∷ (l ∷ ks)) h.lengths

        kills : Each (λ (k : Member). Annihilates chosen k.vector) (k ∷ (l ∷ ks))
        kills = each_from_all (λ (k : Member). Annihilates chosen k.vector) (k ∷ (l ∷ ks)) h.annihilate
