-- A facet isn't 0 on the points, and facets that vanish together are equal.
use Rattle.std.proofs.Common.{◌≡◌, ◌≢◌, ℕ, List, ◌∷◌, ℤ, pos, negsuc, ◌+ℤ◌, ◌*ℤ◌, ◌≤ℤ◌, ◌<ℤ◌, ◌⊎◌, inl, inr, sym, ap, ap₂, ◌∙◌, arith}
use Rattle.std.proofs.lemmas.Int.{ints}
use Rattle.lattice_theory.specs.Vector.{dot, scaled, IsPrimitive}
use Rattle.lattice_theory.specs.Affine.{Affine, value, IsNonnegative, IsMultiple}
use Rattle.lattice_theory.specs.Facet.{IsFacet}
use Rattle.lattice_theory.proofs.Integers.{products_out, linear, cancel_left, nonnegative_factor, *ℤ_assoc, *ℤ_comm, *ℤ-one, one-*ℤ}
use Rattle.lattice_theory.proofs.Members.{In, all_from_each}
use Rattle.lattice_theory.proofs.Vectors.{dot-scaled_left, dot-scaled_right}
use Rattle.lattice_theory.proofs.Divisibility.{primitive_combination, primitive_nonzero, multiple_of_primitive, primitive_same}
use Rattle.facet_theory.specs.Laws.{FacetsDiffer}
use Rattle.facet_theory.specs.Solid.{AreSolid}
use Rattle.facet_theory.proofs.Values.{Nonzero, find_nonzero}
use Rattle.facet_theory.proofs.Lifted.{vector_of, lifted, in_lifted, from_lifted, lifted_value, zero_function}
use Rattle.facet_theory.proofs.Signs.{nonnegative_same, positive_from, nonnegative_at}

-- a facet is positive at some point
pub facet_positive : (n : ℕ) (points : List (List ℤ)) → AreSolid n points → (f : Affine) → IsFacet n points f
    → (p : List ℤ) × In p points × (pos 0 <ℤ value f p)
facet_positive n points solid f facet = by (find_nonzero (lifted points) (vector_of f))
  where
    at : (v : List ℤ) → dot (vector_of f) v ≢ pos 0 → (p : List ℤ) × In p points × (v ≡ pos 1 ∷ p)
        → (p : List ℤ) × In p points × (pos 0 <ℤ value f p)
    at v n' (p, i, e) = (
      p,
      i,
      positive_from (value f p) (nonnegative_at points f facet.nonnegative i)
          (λ z. n' (ap (dot (vector_of f)) e ∙ lifted_value f p ∙ z)),
    )

    by : ((v : List ℤ) → In v (lifted points) → dot (vector_of f) v ≡ pos 0) ⊎ Nonzero (lifted points) (vector_of f)
        → (p : List ℤ) × In p points × (pos 0 <ℤ value f p)
    by (inl z) = absurd (primitive_nonzero f.normal facet.primitive
        (all_from_each (zero_function n points solid f facet.dimension (λ p i. sym (lifted_value f p) ∙ z (pos 1 ∷ p) (in_lifted i))).1))
    by (inr k) = at k.place k.nonzero (from_lifted points k.place k.inside)

-- two functions with primitive normals on one line, of which the first is k times the second with a k that isn't negative, are equal
same_normals : (k : ℤ) (a b : List ℤ) → pos 0 ≤ℤ k → IsPrimitive b → a ≡ scaled k b → (a ≡ b) ⊎ (a ≡ scaled (negsuc 0) b)
    → (a ≡ b) × (k ≡ pos 1)
same_normals k a b h primitive e cases = by (primitive_combination b primitive) cases
  where
    by : (c : List ℤ) × (dot c b ≡ pos 1) → (a ≡ b) ⊎ (a ≡ scaled (negsuc 0) b) → (a ≡ b) × (k ≡ pos 1)
    by (c, one) (inl same) = (same, sym multiple ∙ ap (dot c) same ∙ one)
      where
        multiple : dot c a ≡ k
        multiple = ap (dot c) e ∙ dot-scaled_right k c b ∙ ap (λ (z : ℤ). k *ℤ z) one ∙ *ℤ-one k
    by (c, one) (inr opposite) = absurd (clash (dot c a) (ap (dot c) e ∙ dot-scaled_right k c b ∙ ap (λ (z : ℤ). k *ℤ z) one ∙ *ℤ-one k)
        (ap (dot c) opposite ∙ dot-scaled_right (negsuc 0) c b ∙ ap (λ (z : ℤ). negsuc 0 *ℤ z) one))
      where
        clash : (z : ℤ) → z ≡ k → z ≡ negsuc 0 *ℤ pos 1 → ⊥
        clash z e e' = absurd (omega (arith, ints))

-- the same for functions
same_functions : (f g : Affine) → f.normal ≡ g.normal → f.constant ≡ g.constant → f ≡ g
same_functions f g e e' = ap₂ (λ (a : List ℤ) (c : ℤ). record { normal = a; constant = c }) e e'

-- a nonnegative function with a primitive normal that is a multiple of a facet is that facet
pub same_from_multiple : (n : ℕ) (points : List (List ℤ)) → AreSolid n points → (f g : Affine) → IsFacet n points f → IsPrimitive g.normal
    → IsNonnegative points g → IsMultiple g f → f ≡ g
same_from_multiple n points solid f g facet primitive nonnegative m = by
    (multiple_of_primitive m.left m.right g.normal f.normal m.nonzero facet.primitive m.normals) (facet_positive n points solid f facet)
  where
    by : (k : ℤ) × (m.right ≡ m.left *ℤ k) × (g.normal ≡ scaled k f.normal) → (p : List ℤ) × In p points × (pos 0 <ℤ value f p) → f ≡ g
    by (k, e, e') (p, i, positive) = done (same_normals k g.normal f.normal at_least facet.primitive e'
        (primitive_same m.left m.right g.normal f.normal m.nonzero primitive facet.primitive m.normals))
      where
        constants : g.constant ≡ k *ℤ f.constant
        constants = cancel_left m.left g.constant (k *ℤ f.constant) m.nonzero (m.constants ∙ ap (λ (z : ℤ). z *ℤ f.constant) e
            ∙ *ℤ_assoc m.left k f.constant)

        scaled_value : (a b c d k : ℤ) → a ≡ k *ℤ c → b ≡ k *ℤ d → a +ℤ b ≡ k *ℤ (c +ℤ d)
        scaled_value a b c d k e e' = rw (e, e') (simp products_out (omega (arith, linear)))

        values : value g p ≡ k *ℤ value f p
        values = scaled_value (dot g.normal p) g.constant (dot f.normal p) f.constant k (ap (λ (x : List ℤ). dot x p) e'
            ∙ dot-scaled_left k f.normal p) constants

        at_least : pos 0 ≤ℤ k
        at_least = nonnegative_factor (value f p) k positive
            (nonnegative_same (values ∙ *ℤ_comm k (value f p)) (nonnegative_at points g nonnegative i))

        done : (g.normal ≡ f.normal) × (k ≡ pos 1) → f ≡ g
        done (same, one) = same_functions f g (sym same) (sym (constants ∙ ap (λ (z : ℤ). z *ℤ f.constant) one ∙ one-*ℤ f.constant))

-- the law on facets that vanish together
pub facets_differ_lem : FacetsDiffer
facets_differ_lem n points solid f g facet facet' together = same_from_multiple n points solid f g facet facet'.primitive facet'.nonnegative
    (facet.determined g facet'.dimension together)
