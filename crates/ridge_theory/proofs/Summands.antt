-- The facets of a sum: where it is 0, each is, and one of them that is a multiple of a facet of more points is that facet.
use Rattle.std.proofs.Common.{◌≡◌, ◌≢◌, ℕ, List, [], ◌∷◌, length, ℤ, pos, ◌+ℤ◌, ◌*ℤ◌, ◌≤ℤ◌, ◌<ℤ◌, ◌⊎◌, inl, inr, sym, ap, ◌∙◌, arith}
use Rattle.lattice_theory.specs.Vector.{dot, IsPrimitive}
use Rattle.lattice_theory.specs.Affine.{Affine, value, value_over, IsNonnegative, IsMultiple}
use Rattle.lattice_theory.specs.Facet.{IsFacet}
use Rattle.lattice_theory.proofs.Integers.{linear, negative_or_not, positive_or_not, product_nonzero, positive_nonzero, positive_pos, factor_zero, *ℤ-zero, zero-*ℤ}
use Rattle.lattice_theory.proofs.Members.{In, here, Each, empty, more, each_from_all, all_from_each, each_weaker, each_in}
use Rattle.lattice_theory.proofs.Divisibility.{primitive_nonzero}
use Rattle.facet_theory.specs.Sums.{total_over, IsSumOfFacets}
use Rattle.facet_theory.specs.Solid.{AreSolid}
use Rattle.facet_theory.proofs.Different.{facet_positive, same_from_multiple}
use Rattle.facet_theory.proofs.Hull.{total_nonnegative, some_positive}
use Rattle.facet_theory.proofs.Lifted.{vector_of, lifted_value, value_at_one, zero_function, vectors_from_multiple, multiple_from_vectors}
use Rattle.facet_theory.proofs.Rays.{IsMultipleOf}
use Rattle.facet_theory.proofs.Signs.{nonnegative_same, terms_zero}

-- nonnegative terms of a sum that is 0 are 0
terms_vanish : (fs : List Affine) (x : List ℤ) → Each (λ f. pos 0 ≤ℤ value f x) fs → total_over fs x (pos 1) ≡ pos 0
    → Each (λ f. value f x ≡ pos 0) fs
terms_vanish [] x h e = empty
terms_vanish (f ∷ fs) x (more p ps) e = by
    (terms_zero (value_over f x (pos 1)) (total_over fs x (pos 1)) (over f p) (total_nonnegative fs x (pos 1) (each_weaker over ps)) e)
    (λ z. terms_vanish fs x ps z)
  where
    over : (g : Affine) → pos 0 ≤ℤ value g x → pos 0 ≤ℤ value_over g x (pos 1)
    over g h = nonnegative_same (sym (value_at_one g x)) h

    by : (value_over f x (pos 1) ≡ pos 0) × (total_over fs x (pos 1) ≡ pos 0)
        → (total_over fs x (pos 1) ≡ pos 0 → Each (λ g. value g x ≡ pos 0) fs) → Each (λ g. value g x ≡ pos 0) (f ∷ fs)
    by (z, z') rest = more (sym (value_at_one f x) ∙ z) (rest z')

-- so the facets of a sum are 0 where the sum is 0 and no facet is negative
pub summands_vanish : (n : ℕ) (points : List (List ℤ)) (f : Affine) (s : IsSumOfFacets n points f) (x : List ℤ)
    → ((g : Affine) → IsFacet n points g → pos 0 ≤ℤ value g x) → value f x ≡ pos 0 → (g : Affine) → In g s.summands → value g x ≡ pos 0
summands_vanish n points f s x h z g i = each_in (terms_vanish s.summands x
    (each_weaker h (each_from_all (IsFacet n points) s.summands s.are_facets)) total) i
  where
    total : total_over s.summands x (pos 1) ≡ pos 0
    total = sym (s.sums x (pos 1)) ∙ ap (λ (w : ℤ). pos s.multiplier *ℤ w) (value_at_one f x ∙ z) ∙ *ℤ-zero (pos s.multiplier)

-- each is a facet
pub summand_facet : (n : ℕ) (points : List (List ℤ)) (f : Affine) (s : IsSumOfFacets n points f) (g : Affine) → In g s.summands
    → IsFacet n points g
summand_facet n points f s g i = each_in (each_from_all (IsFacet n points) s.summands s.are_facets) i

-- where a sum is negative, some term is
some_negative : (P : Affine → Type 0) (fs : List Affine) (x : List ℤ) (d : ℤ) → Each P fs → total_over fs x d <ℤ pos 0
    → (f : Affine) × P f × (value_over f x d <ℤ pos 0)
some_negative P [] x d h p = absurd (omega (arith, linear))
some_negative P (f ∷ fs) x d (more holds all) p = by (negative_or_not (value_over f x d)) (λ q. some_negative P fs x d all q)
  where
    rest : (a b : ℤ) → pos 0 ≤ℤ a → (a +ℤ b) <ℤ pos 0 → b <ℤ pos 0
    rest a b h k = omega (arith, linear)

    by : (value_over f x d <ℤ pos 0) ⊎ (pos 0 ≤ℤ value_over f x d)
        → (total_over fs x d <ℤ pos 0 → (f : Affine) × P f × (value_over f x d <ℤ pos 0)) → (f : Affine) × P f × (value_over f x d <ℤ pos 0)
    by (inl q) later = (f, holds, q)
    by (inr q) later = later (rest (value_over f x d) (total_over fs x d) q p)

-- two functions, one positive at p and the other negative
pub record HasOpposite (P : Affine → Type 0) (p : List ℤ) : Type 0 where
  pub left : Affine
  pub right : Affine
  pub left_holds : P left
  pub right_holds : P right
  pub before : pos 0 <ℤ value left p
  pub behind : value right p <ℤ pos 0

-- functions, at least one, whose sum is 0 at p: one of them is 0 there, or two have opposite signs
pub zero_or_opposite : (P : Affine → Type 0) (fs : List Affine) (p : List ℤ) {k : Affine} → In k fs → Each P fs
    → total_over fs p (pos 1) ≡ pos 0
    → ((g : Affine) × P g × (value g p ≡ pos 0)) ⊎ HasOpposite P p
zero_or_opposite P [] p i all e = elim i [ ]
zero_or_opposite P (f ∷ fs) p i (more holds all) e = by (negative_or_not (value f p)) (positive_or_not (value f p))
  where
    first : total_over fs p (pos 1) +ℤ value f p ≡ pos 0
    first = let v = value_at_one f p in omega (arith, linear)

    above : (a b : ℤ) → a +ℤ b ≡ pos 0 → b <ℤ pos 0 → pos 0 <ℤ a
    above a b e h = omega (arith, linear)

    below : (a b : ℤ) → a +ℤ b ≡ pos 0 → pos 0 <ℤ b → a <ℤ pos 0
    below a b e h = omega (arith, linear)

    zero : (a : ℤ) → pos 0 ≤ℤ a → a ≤ℤ pos 0 → a ≡ pos 0
    zero a h k = omega (arith, linear)

    with_positive : value f p <ℤ pos 0 → (g : Affine) × P g × (pos 0 <ℤ value_over g p (pos 1)) → HasOpposite P p
    with_positive h (g, k, q) =
        let v = value_at_one g p in
        record { left = g; right = f; left_holds = k; right_holds = holds; before = omega (arith, linear, v, q); behind = h }

    with_negative : pos 0 <ℤ value f p → (g : Affine) × P g × (value_over g p (pos 1) <ℤ pos 0) → HasOpposite P p
    with_negative h (g, k, q) =
        let v = value_at_one g p in
        record { left = f; right = g; left_holds = holds; right_holds = k; before = h; behind = omega (arith, linear, v, q) }

    by : (value f p <ℤ pos 0) ⊎ (pos 0 ≤ℤ value f p) → (pos 0 <ℤ value f p) ⊎ (value f p ≤ℤ pos 0)
        → ((g : Affine) × P g × (value g p ≡ pos 0)) ⊎ HasOpposite P p
    by (inl h) r = inr (with_positive h (some_positive P fs p (pos 1) all (above (total_over fs p (pos 1)) (value f p) first h)))
    by (inr h) (inl k) = inr (with_negative k (some_negative P fs p (pos 1) all (below (total_over fs p (pos 1)) (value f p) first k)))
    by (inr h) (inr k) = inl (f, holds, zero (value f p) h k)

-- a sum with a primitive normal isn't the empty one
pub some_summand : (n : ℕ) (points : List (List ℤ)) → AreSolid n points → (f : Affine) → length f.normal ≡ n → IsPrimitive f.normal
    → (s : IsSumOfFacets n points f) → (g : Affine) × In g s.summands
some_summand n points solid f l primitive s = by s.summands s.sums
  where
    zero : ((x : List ℤ) (d : ℤ) → pos s.multiplier *ℤ value_over f x d ≡ pos 0) → (x : List ℤ) → value f x ≡ pos 0
    zero h x = sym (value_at_one f x) ∙ factor_zero (pos s.multiplier) (value_over f x (pos 1))
        (positive_nonzero (pos s.multiplier) (positive_pos s.multiplier s.positive)) (h x (pos 1))

    by : (ks : List Affine) → ((x : List ℤ) (d : ℤ) → pos s.multiplier *ℤ value_over f x d ≡ total_over ks x d) → (g : Affine) × In g ks
    by [] sums = absurd (primitive_nonzero f.normal primitive (all_from_each (zero_function n points solid f l (λ p i. zero sums p)).1))
    by (g ∷ ks) sums = (g, here)

-- a nonnegative function with a primitive normal of which a facet is a multiple is that facet
pub same_as_multiple : (n : ℕ) (points : List (List ℤ)) → AreSolid n points → (f g : Affine) → IsFacet n points f → length g.normal ≡ n
    → IsPrimitive g.normal → IsNonnegative points g → IsMultiple f g → f ≡ g
same_as_multiple n points solid f g facet l primitive nonnegative m =
    by (vectors_from_multiple f g m) (facet_positive n points solid f facet)
  where
    by : IsMultipleOf (vector_of f) (vector_of g) → (p : List ℤ) × In p points × (pos 0 <ℤ value f p) → f ≡ g
    by v (p, i, q) = same_from_multiple n points solid f g facet primitive nonnegative
        (multiple_from_vectors n g f l facet.dimension (record {
          left = v.right;
          right = v.left;
          nonzero = right_nonzero;
          same = λ y. sym (v.same y);
        }))
      where
        right_nonzero : v.right ≢ pos 0
        right_nonzero e = product_nonzero v.left (value f p) v.nonzero (positive_nonzero (value f p) q)
            (ap (λ (z : ℤ). v.left *ℤ z) (sym (lifted_value f p)) ∙ v.same (pos 1 ∷ p)
            ∙ ap (λ (z : ℤ). z *ℤ dot (vector_of g) (pos 1 ∷ p)) e ∙ zero-*ℤ (dot (vector_of g) (pos 1 ∷ p)))
