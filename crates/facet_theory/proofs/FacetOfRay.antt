-- A ray of points that aren't flat is a positive multiple of a facet.
use Rattle.std.proofs.Common.{◌≡◌, ◌≢◌, ℕ, suc, ◌<◌, List, [], ◌∷◌, length, ℤ, pos, ◌+ℤ◌, ◌*ℤ◌, neg_ℤ, ◌<ℤ◌, sym, ap, ap₂, ◌∙◌, arith}
use Rattle.std.proofs.lemmas.Int.{ints}
use Rattle.lattice_theory.specs.Vector.{dot, scaled, IsPrimitive}
use Rattle.lattice_theory.specs.Affine.{Affine, VanishesWith, IsMultiple}
use Rattle.lattice_theory.specs.Facet.{IsFacet}
use Rattle.lattice_theory.proofs.Integers.{linear, positive_nonzero, factor_zero, nonnegative_factor, *ℤ-one, *ℤ-zero, *ℤ-neg, zero-*ℤ}
use Rattle.lattice_theory.proofs.Members.{In, here, Each, more, each_from_all}
use Rattle.lattice_theory.proofs.Vectors.{dot-nil, zeros, unit, length-zeros, length-unit, dot-unit, dot-zeros, dot-scaled_left, length-scaled}
use Rattle.lattice_theory.proofs.Divisibility.{HasPrimitivePart, primitive_part}
use Rattle.facet_theory.proofs.Values.{VanishesAlong, ZerosOf, zeros_of, dot-zero}
use Rattle.facet_theory.proofs.Rays.{IsMultipleOf, IsRay, multiple_through}
use Rattle.facet_theory.proofs.Lifted.{vector_of, lifted, from_lifted, nonnegative_from_above, along_from_vanishes_with, multiple_from_vectors}
use Rattle.facet_theory.proofs.Signs.{nonnegative_same}

-- a facet of which r is a positive multiple
pub record FacetOf (n : ℕ) (points : List (List ℤ)) (r : List ℤ) : Type 0 where
  pub function : Affine
  pub facet : IsFacet n points function
  pub factor : ℕ
  pub positive : 0 < factor
  pub same : (y : List ℤ) → dot r y ≡ pos factor *ℤ dot (vector_of function) y

-- no vector has both 1 ∷ zeros and 0 ∷ unit as multiples of it
no_common : (q p a b t s : ℤ) → q ≢ pos 0 → t ≢ pos 0 → q ≡ p *ℤ a → pos 0 ≡ p *ℤ b → t ≡ s *ℤ b → ⊥
no_common q p a b t s n n' e e' e'' = n' (e'' ∙ ap (λ (z : ℤ). s *ℤ z) (factor_zero p b p_nonzero (sym e')) ∙ *ℤ-zero s)
  where
    p_nonzero : p ≢ pos 0
    p_nonzero z = n (e ∙ ap (λ (w : ℤ). w *ℤ a) z ∙ zero-*ℤ a)

-- a ray vanishes at some of the vectors, since otherwise each function would be a multiple of it
ray_zero : (n : ℕ) (S : List (List ℤ)) (r : List ℤ) → 0 < n → IsRay (suc n) S r → (v : List ℤ) × In v S × (dot r v ≡ pos 0)
ray_zero n S r pos_n h = by z.list z.among z.zero z.all
  where
    z : ZerosOf S r
    z = zeros_of S r

    first : List ℤ
    first = pos 1 ∷ zeros n

    second : List ℤ
    second = pos 0 ∷ unit n 0

    none : ((v : List ℤ) → In v S → dot r v ≡ pos 0 → In v []) → ⊥
    none all = clash (h.determined first (ap suc (length-zeros n)) (record { at = λ v i e. elim (all v i e) [ ] }))
        (h.determined second (ap suc (length-unit n 0)) (record { at = λ v i e. elim (all v i e) [ ] }))
      where
        one_value : dot first (pos 1 ∷ []) ≡ pos 1
        one_value = let e = dot-nil (zeros n) in omega (arith, linear)

        zero_value : dot first (pos 0 ∷ (pos 1 ∷ [])) ≡ pos 0
        zero_value = let e = dot-zeros n (pos 1 ∷ []) in omega (arith, linear)

        unit_value : dot second (pos 0 ∷ (pos 1 ∷ [])) ≡ pos 1
        unit_value = let e = dot-unit n 0 (pos 1 ∷ []) pos_n in omega (arith, linear)

        times_one : (q d x : ℤ) → d ≡ pos 1 → q *ℤ d ≡ x → q ≡ x
        times_one q d x e f = sym (*ℤ-one q) ∙ ap (λ (z : ℤ). q *ℤ z) (sym e) ∙ f

        times_zero : (q d x : ℤ) → d ≡ pos 0 → q *ℤ d ≡ x → pos 0 ≡ x
        times_zero q d x e f = sym (*ℤ-zero q) ∙ ap (λ (z : ℤ). q *ℤ z) (sym e) ∙ f

        clash : IsMultipleOf first r → IsMultipleOf second r → ⊥
        clash a b = no_common a.left a.right (dot r (pos 1 ∷ [])) (dot r (pos 0 ∷ (pos 1 ∷ []))) b.left b.right a.nonzero b.nonzero
            (times_one a.left (dot first (pos 1 ∷ [])) (a.right *ℤ dot r (pos 1 ∷ [])) one_value (a.same (pos 1 ∷ [])))
            (times_zero a.left (dot first (pos 0 ∷ (pos 1 ∷ []))) (a.right *ℤ dot r (pos 0 ∷ (pos 1 ∷ []))) zero_value
            (a.same (pos 0 ∷ (pos 1 ∷ [])))) (times_one b.left (dot second (pos 0 ∷ (pos 1 ∷ [])))
            (b.right *ℤ dot r (pos 0 ∷ (pos 1 ∷ []))) unit_value (b.same (pos 0 ∷ (pos 1 ∷ []))))

    by : (list : List (List ℤ)) → ((v : List ℤ) → In v list → In v S) → ((v : List ℤ) → In v list → dot r v ≡ pos 0)
        → ((v : List ℤ) → In v S → dot r v ≡ pos 0 → In v list) → (v : List ℤ) × In v S × (dot r v ≡ pos 0)
    by [] among values all = absurd (none all)
    by (v ∷ list) among values all = (v, among v here, values v here)

-- a positive multiple of a function that is a ray: the function is a facet where its normal is primitive
facet_of_multiple : (n : ℕ) (points : List (List ℤ)) (r : List ℤ) → IsRay (suc n) (lifted points) r → (f : Affine) → length f.normal ≡ n
    → IsPrimitive f.normal → (d : ℕ) → 0 < d → ((y : List ℤ) → dot r y ≡ pos d *ℤ dot (vector_of f) y) → FacetOf n points r
facet_of_multiple n points r h f e prim d p same = record { function = f; facet = facet; factor = d; positive = p; same = same }
  where
    positive : pos 0 <ℤ pos d
    positive = omega (arith, linear)

    determined : (g : Affine) → length g.normal ≡ n → VanishesWith points f g → IsMultiple g f
    determined g l v = multiple_from_vectors n g f l e
        (multiple_through (vector_of g) r (vector_of f) (pos d) (h.determined (vector_of g) (ap suc l) along) same)
      where
        with : VanishesAlong (lifted points) (vector_of f) (vector_of g)
        with = along_from_vanishes_with points f g v

        along : VanishesAlong (lifted points) r (vector_of g)
        along = record {
          at = λ w i z. with.at w i (factor_zero (pos d) (dot (vector_of f) w) (positive_nonzero (pos d) positive)
              (sym (same w) ∙ z));
        }

    facet : IsFacet n points f
    facet = record {
      dimension = e;
      primitive = prim;
      nonnegative = nonnegative_from_above points f (record {
        at = λ v i. nonnegative_factor (pos d) (dot (vector_of f) v) positive
            (nonnegative_same (same v) (h.above.at v i));
      });
      determined = determined;
    }

-- the constant, from the value 0 at a point
constant_zero : (c d : ℤ) → c *ℤ pos 1 +ℤ d ≡ pos 0 → d ≡ pos 0 → c ≡ pos 0
constant_zero c d e e' = omega (arith, ints)

-- with a normal that is k times another
constant_divided : (c d k x : ℤ) → c *ℤ pos 1 +ℤ d ≡ pos 0 → d ≡ k *ℤ x → c ≡ k *ℤ neg_ℤ x
constant_divided c d k x e e' = simp *ℤ-neg (omega (arith, linear, *ℤ-one c))

-- each ray is a positive multiple of a facet: divide by the gcd of the
-- normal, which divides the constant too, since the ray is 0 at a point
pub facet_of_ray : (n : ℕ) (points : List (List ℤ)) → 0 < n → (r : List ℤ) → IsRay (suc n) (lifted points) r → FacetOf n points r
facet_of_ray n points pos_n [] h = absurd (omega (arith, h.long))
facet_of_ray n points pos_n (c ∷ a) h = by (ray_zero n (lifted points) (c ∷ a) pos_n h)
  where
    with_point : (p : List ℤ) → dot (c ∷ a) (pos 1 ∷ p) ≡ pos 0 → FacetOf n points (c ∷ a)
    with_point p z = divided (primitive_part a (λ e. normal_zero (each_from_all (λ b. b ≡ pos 0) a e)))
      where
        normal_zero : Each (λ b. b ≡ pos 0) a → ⊥
        normal_zero e = h.somewhere.nonzero (dot-zero (c ∷ a) h.somewhere.place (more (constant_zero c (dot a p) z (dot-zero a p e)) e))

        divided : HasPrimitivePart a → FacetOf n points (c ∷ a)
        divided d = facet_of_multiple n points (c ∷ a) h (record { normal = d.part; constant = neg_ℤ (dot d.part p) })
            (sym (length-scaled (pos d.factor) d.part) ∙ ap length d.same ∙ suc_length h.long) d.primitive d.factor d.positive
            (λ y. ap (λ (x : List ℤ). dot x y) whole ∙ dot-scaled_left (pos d.factor) (neg_ℤ (dot d.part p) ∷ d.part) y)
          where
            suc_length : length (c ∷ a) ≡ suc n → length a ≡ n
            suc_length e = omega arith

            constant : c ≡ pos d.factor *ℤ neg_ℤ (dot d.part p)
            constant = let e : dot a p ≡ pos d.factor *ℤ dot d.part p = ap (λ (x : List ℤ). dot x p) (sym d.same) ∙ dot-scaled_left
                (pos d.factor) d.part p in constant_divided c (dot a p) (pos d.factor) (dot d.part p) z e

            whole : (c ∷ a) ≡ scaled (pos d.factor) (neg_ℤ (dot d.part p) ∷ d.part)
            whole = ap₂ (λ (b : ℤ) (x : List ℤ). b ∷ x) constant (sym d.same)

    by : (v : List ℤ) × In v (lifted points) × (dot (c ∷ a) v ≡ pos 0) → FacetOf n points (c ∷ a)
    by (v, i, z) = at (from_lifted points v i)
      where
        at : (p : List ℤ) × In p points × (v ≡ pos 1 ∷ p) → FacetOf n points (c ∷ a)
        at (p, j, e) = with_point p (ap (dot (c ∷ a)) (sym e) ∙ z)
