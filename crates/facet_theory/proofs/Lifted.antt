-- Affine functions and points as vectors: the constant stands before the normal, and 1 before the point, so that the value is the pairing.
use Rattle.std.proofs.Common.{◌≡◌, ℕ, suc, ◌<◌, List, [], ◌∷◌, length, ℤ, pos, ◌*ℤ◌, ◌≤ℤ◌, ◌⊎◌, inl, inr, refl, sym, ap, ap₂, ◌∙◌, arith}
use Rattle.lattice_theory.specs.Vector.{entry, dot, scaled, HaveDimension, EndsAt, IsVectorMultiple}
use Rattle.lattice_theory.specs.Affine.{Affine, value, value_over, IsNonnegative, VanishesWith, IsMultiple}
use Rattle.lattice_theory.specs.Facet.{IsFlat}
use Rattle.lattice_theory.proofs.Integers.{products_out, linear}
use Rattle.lattice_theory.proofs.Members.{In, here, there, Each, more, all_from_each, each_from_all, each_in, each_from_in, in_from_contains, contains_from_in}
use Rattle.lattice_theory.proofs.Vectors.{unit, length-unit, entry-unit_same, zero_or_ends, zero_from_entries}
use Rattle.facet_theory.specs.Solid.{AreSolid}
use Rattle.facet_theory.proofs.Values.{dot-zero, IsAbove, VanishesAlong, IsSolid}
use Rattle.facet_theory.proofs.Rays.{IsMultipleOf, multiple_of, vector_multiple}
use Rattle.facet_theory.proofs.Signs.{nonnegative_same, nonnegative_at, nonnegative_from}

-- a function as a vector, and back
abbrev pub vector_of : Affine → List ℤ
vector_of f = f.constant ∷ f.normal

-- a vector as a function
abbrev pub function_of : List ℤ → Affine
function_of [] = record { normal = []; constant = pos 0 }
function_of (c ∷ a) = record { normal = a; constant = c }

-- points as vectors
abbrev pub lifted : List (List ℤ) → List (List ℤ)
lifted [] = []
lifted (p ∷ points) = (pos 1 ∷ p) ∷ lifted points

-- a point's vector is among the vectors
pub in_lifted : {p : List ℤ} {points : List (List ℤ)} → In p points → In (pos 1 ∷ p) (lifted points)
in_lifted here = here
in_lifted (there i) = there (in_lifted i)

-- each of the vectors is of a point
pub from_lifted : (points : List (List ℤ)) (v : List ℤ) → In v (lifted points) → (p : List ℤ) × In p points × (v ≡ pos 1 ∷ p)
from_lifted [] v i = elim i [ ]
from_lifted (p ∷ points) v here = (p, here, refl)
from_lifted (p ∷ points) v (there i) = let r = from_lifted points v i in (r.0, there r.1, r.2)

-- values
pub lifted_value_over : (f : Affine) (x : List ℤ) (d : ℤ) → dot (vector_of f) (d ∷ x) ≡ value_over f x d
lifted_value_over f x d = simp products_out (omega (arith, linear))

-- at a point
pub lifted_value : (f : Affine) (x : List ℤ) → dot (vector_of f) (pos 1 ∷ x) ≡ value f x
lifted_value f x = simp products_out (omega (arith, linear))

-- the value at x/1
pub value_at_one : (f : Affine) (x : List ℤ) → value_over f x (pos 1) ≡ value f x
value_at_one f x = simp products_out

-- facts at points, and the same at vectors
pub above_from_nonnegative : (points : List (List ℤ)) (f : Affine) → IsNonnegative points f → IsAbove (lifted points) (vector_of f)
above_from_nonnegative points f h = record { at = λ v i. by v (from_lifted points v i) }
  where
    by : (v : List ℤ) → (p : List ℤ) × In p points × (v ≡ pos 1 ∷ p) → pos 0 ≤ℤ dot (vector_of f) v
    by v (p, i, e) = nonnegative_same (sym (ap (dot (vector_of f)) e ∙ lifted_value f p)) (nonnegative_at points f h i)

-- and back
pub nonnegative_from_above : (points : List (List ℤ)) (f : Affine) → IsAbove (lifted points) (vector_of f) → IsNonnegative points f
nonnegative_from_above points f h = nonnegative_from points f (λ p i. nonnegative_same (lifted_value f p) (h.at (pos 1 ∷ p) (in_lifted i)))

-- vanishing along a function
pub along_from_vanishes_with : (points : List (List ℤ)) (f g : Affine) → VanishesWith points f g
    → VanishesAlong (lifted points) (vector_of f) (vector_of g)
along_from_vanishes_with points f g h = record { at = λ v i. by v (from_lifted points v i) }
  where
    by : (v : List ℤ) → (p : List ℤ) × In p points × (v ≡ pos 1 ∷ p) → dot (vector_of f) v ≡ pos 0 → dot (vector_of g) v ≡ pos 0
    by v (p, i, e) z = ap (dot (vector_of g)) e ∙ lifted_value g p
        ∙ h p (contains_from_in i) (sym (lifted_value f p) ∙ sym (ap (dot (vector_of f)) e) ∙ z)

-- and back
pub vanishes_with_from_along : (points : List (List ℤ)) (f g : Affine) → VanishesAlong (lifted points) (vector_of f) (vector_of g)
    → VanishesWith points f g
vanishes_with_from_along points f g h p c z = sym (lifted_value g p) ∙ h.at (pos 1 ∷ p) (in_lifted (in_from_contains points c))
    (lifted_value f p ∙ z)

-- multiples
pub multiple_from_vectors : (n : ℕ) (g f : Affine) → length g.normal ≡ n → length f.normal ≡ n → IsMultipleOf (vector_of g) (vector_of f)
    → IsMultiple g f
multiple_from_vectors n g f e e' h = by (vector_multiple (suc n) (vector_of g) (vector_of f) (ap suc e) (ap suc e') h)
  where
    by : IsVectorMultiple (vector_of g) (vector_of f) → IsMultiple g f
    by m = record { left = m.left; right = m.right; nonzero = m.nonzero; normals = tails m.same; constants = heads m.same }
      where
        tails : scaled m.left (vector_of g) ≡ scaled m.right (vector_of f) → scaled m.left g.normal ≡ scaled m.right f.normal
        tails e = cc

        heads : scaled m.left (vector_of g) ≡ scaled m.right (vector_of f) → m.left *ℤ g.constant ≡ m.right *ℤ f.constant
        heads e = cc

-- and back
pub vectors_from_multiple : (g f : Affine) → IsMultiple g f → IsMultipleOf (vector_of g) (vector_of f)
vectors_from_multiple g f m = multiple_of (vector_of g) (vector_of f)
    (record { left = m.left; right = m.right; nonzero = m.nonzero; same = ap₂ (λ (c : ℤ) (x : List ℤ). c ∷ x) m.constants m.normals })

-- points that aren't flat: there is one, and as vectors they span
pub lifted_dimension : (n : ℕ) (points : List (List ℤ)) → HaveDimension n points → (v : List ℤ) → In v (lifted points) → length v ≡ suc n
lifted_dimension n points h v i = by (from_lifted points v i)
  where
    by : (p : List ℤ) × In p points × (v ≡ pos 1 ∷ p) → length v ≡ suc n
    by (p, j, e) = ap length e ∙ ap suc (each_in (each_from_all (λ q. length q ≡ n) points h) j)

-- no points would be flat
pub some_point : (n : ℕ) (points : List (List ℤ)) → AreSolid n points → (p : List ℤ) × In p points
some_point n [] h = absurd (h.solid (record {
  function = record { normal = unit n 0; constant = pos 0 };
  dimension = length-unit n 0;
  nonconstant = (0, λ e. one_nonzero (sym (entry-unit_same n 0 h.coordinates) ∙ e));
  vanishes = λ k d l. absurd (omega arith);
}))
  where
    one_nonzero : pos 1 ≡ pos 0 → ⊥
    one_nonzero e = absurd (omega (arith, linear))
some_point n (p ∷ points) h = (p, here)

-- a function that is 0 at all of the points is 0
pub zero_function : (n : ℕ) (points : List (List ℤ)) → AreSolid n points → (f : Affine) → length f.normal ≡ n
    → ((p : List ℤ) → In p points → value f p ≡ pos 0) → (f.constant ≡ pos 0) × Each (λ a. a ≡ pos 0) f.normal
zero_function n points h f l z = by (zero_or_ends f.normal)
  where
    flat : (k : ℕ) × (k < length f.normal) × EndsAt f.normal k → IsFlat n points
    flat (k, b, e) = record { function = f; dimension = l; nonconstant = (k, e.nonzero); vanishes = all_from_each (each_from_in points z) }

    no_constant : (p : List ℤ) → In p points → Each (λ a. a ≡ pos 0) f.normal → f.constant ≡ pos 0
    no_constant p i e = let v = z p i in let d = dot-zero f.normal p e in omega (arith, linear)

    by : ((i : ℕ) → entry f.normal i ≡ pos 0) ⊎ ((k : ℕ) × (k < length f.normal) × EndsAt f.normal k)
        → (f.constant ≡ pos 0) × Each (λ a. a ≡ pos 0) f.normal
    by (inl e) =
        let zeros : Each (λ a. a ≡ pos 0) f.normal = each_from_all (λ a. a ≡ pos 0) f.normal (zero_from_entries f.normal e) in
        let p : (p : List ℤ) × In p points = some_point n points h in
        (no_constant p.0 p.1 zeros, zeros)
    by (inr e) = absurd (h.solid (flat e))

-- so the vectors span
pub lifted_solid : (n : ℕ) (points : List (List ℤ)) → AreSolid n points → IsSolid (suc n) (lifted points)
lifted_solid n points h = record { only_zero = only }
  where
    each_zero : (c : ℤ) (a : List ℤ) → (c ≡ pos 0) × Each (λ b. b ≡ pos 0) a → Each (λ b. b ≡ pos 0) (c ∷ a)
    each_zero c a (e, es) = more e es

    only : (g : List ℤ) → length g ≡ suc n → ((v : List ℤ) → In v (lifted points) → dot g v ≡ pos 0) → (y : List ℤ) → dot g y ≡ pos 0
    only [] l z y = refl
    only (c ∷ a) l z y = dot-zero (c ∷ a) y (each_zero c a (zero_function n points h (function_of (c ∷ a)) (omega arith)
        (λ p i. sym (lifted_value (function_of (c ∷ a)) p) ∙ z (pos 1 ∷ p) (in_lifted i))))
