-- A facet is fixed by n of the points on it.
use Rattle.std.proofs.Common.{◌≡◌, ℕ, suc, ◌+◌, List, [], ◌∷◌, length, ℤ, pos, refl, sym, ap, ap₂, ◌∙◌, subst, arith}
use Rattle.std.specs.List.{All, Contains}
use Rattle.std.proofs.lemmas.List.Elements.{All-tail}
use Rattle.lattice_theory.specs.Vector.{dot, IsVectorMultiple}
use Rattle.lattice_theory.specs.Affine.{Affine, value, Vanishes, IsMultiple}
use Rattle.lattice_theory.specs.Facet.{IsFacet}
use Rattle.elimination.specs.Elimination.{Annihilates}
use Rattle.lattice_theory.proofs.Members.{In, here, there, all_from_each, each_from_all, each_in, each_from_in, in_from_contains, contains_from_in}
use Rattle.lattice_theory.proofs.Divisibility.{primitive_nonzero}
use Rattle.facet_theory.specs.Laws.{FacetByPoints}
use Rattle.elimination.proofs.KernelSize.{few_determine_lem}
use Rattle.facet_theory.proofs.Values.{VanishesAlong, ZerosOf, zeros_of}
use Rattle.facet_theory.proofs.Rays.{annihilates, along_from, vector_multiple}
use Rattle.facet_theory.proofs.Lifted.{vector_of, function_of, lifted, in_lifted, from_lifted, lifted_value, lifted_dimension, vanishes_with_from_along, vectors_from_multiple}

-- points whose vectors are the given ones
record Unlifted (points vs : List (List ℤ)) : Type 0 where
  list : List (List ℤ)
  count : length list ≡ length vs
  same : vs ≡ lifted list
  inside : (p : List ℤ) → In p list → In p points

-- vectors of points are the vectors of a list of points
unlifted : (points vs : List (List ℤ)) → ((v : List ℤ) → In v vs → In v (lifted points)) → Unlifted points vs
unlifted points [] h = record { list = []; count = refl; same = refl; inside = λ p i. elim i [ ] }
unlifted points (v ∷ vs) h = by (from_lifted points v (h v here)) (unlifted points vs (λ w i. h w (there i)))
  where
    by : (p : List ℤ) × In p points × (v ≡ pos 1 ∷ p) → Unlifted points vs → Unlifted points (v ∷ vs)
    by (p, i, e) u = record {
      list = p ∷ u.list;
      count = ap suc u.count;
      same = ap₂ (λ (x : List ℤ) (xs : List (List ℤ)). x ∷ xs) e u.same;
      inside = inside;
    }
      where
        inside : (q : List ℤ) → In q (p ∷ u.list) → In q points
        inside q here = i
        inside q (there j) = u.inside q j

-- vanishing on points is annihilating their vectors
pub annihilates_lifted : (on : List (List ℤ)) (f : Affine) → Vanishes on f → Annihilates (lifted on) (vector_of f)
annihilates_lifted on f h = all_from_each (each_from_in (lifted on) (λ v i. by v (from_lifted on v i)))
  where
    by : (v : List ℤ) → (p : List ℤ) × In p on × (v ≡ pos 1 ∷ p) → dot (vector_of f) v ≡ pos 0
    by v (p, i, e) = ap (dot (vector_of f)) e ∙ lifted_value f p ∙ each_in (each_from_all (λ q. value f q ≡ pos 0) on h) i

-- and conversely
pub vanishes_from_lifted : (on : List (List ℤ)) (f : Affine) → Annihilates (lifted on) (vector_of f) → Vanishes on f
vanishes_from_lifted on f h = all_from_each (each_from_in on
    (λ p i. sym (lifted_value f p) ∙ each_in (each_from_all (λ v. dot (vector_of f) v ≡ pos 0) (lifted on) h) (in_lifted i)))

-- what vanishes on the zeros of a facet is a multiple of it, for vectors
pub facet_determines : (n : ℕ) (points : List (List ℤ)) (f : Affine) → IsFacet n points f → (g : List ℤ) → length g ≡ suc n
    → VanishesAlong (lifted points) (vector_of f) g → IsVectorMultiple g (vector_of f)
facet_determines n points f facet [] l h = absurd (omega arith)
facet_determines n points f facet (c ∷ a) l h = vector_multiple (suc n) (c ∷ a) (vector_of f) l (ap suc facet.dimension)
    (vectors_from_multiple (function_of (c ∷ a)) f (facet.determined (function_of (c ∷ a)) (omega arith)
    (vanishes_with_from_along points f (function_of (c ∷ a)) h)))

-- a facet is not the vector 0
pub facet_nonzero : (f : Affine) (n : ℕ) (points : List (List ℤ)) → IsFacet n points f → All (λ a. a ≡ pos 0) (vector_of f) → ⊥
facet_nonzero f n points facet h = primitive_nonzero f.normal facet.primitive (All-tail (λ a. a ≡ pos 0) f.constant f.normal h)

-- the law on n points of a facet
pub facet_by_points_lem : FacetByPoints
facet_by_points_lem n points solid f facet = by (few_determine_lem (suc n) z.list
    (all_from_each (each_from_in z.list (λ v i. lifted_dimension n points solid.dimension v (z.among v i)))) v (ap suc facet.dimension)
    (facet_nonzero f n points facet) (annihilates (lifted points) v v z (record { at = λ w i e. e }))
    (λ g l a. facet_determines n points f facet g l (along_from (lifted points) v g z a)))
  where
    v : List ℤ
    v = vector_of f

    z : ZerosOf (lifted points) v
    z = zeros_of (lifted points) v

    by : (pivots : List (List ℤ)) × (length pivots + 1 ≡ suc n) × ((v : List ℤ) → Contains pivots v → Contains z.list v)
        × ((g : List ℤ) → length g ≡ suc n → Annihilates pivots g → Annihilates z.list g) → (on : List (List ℤ)) × (length on ≡ n)
        × ((p : List ℤ) → Contains on p → Contains points p) × Vanishes on f × ((g : Affine) → length g.normal ≡ n → Vanishes on g
        → IsMultiple g f)
    by (pivots, count, chosen, kernel) =
        at (unlifted points pivots (λ w i. z.among w (in_from_contains z.list (chosen w (contains_from_in i)))))
      where
        at : Unlifted points pivots → (on : List (List ℤ)) × (length on ≡ n) × ((p : List ℤ) → Contains on p → Contains points p)
            × Vanishes on f
            × ((g : Affine) → length g.normal ≡ n → Vanishes on g → IsMultiple g f)
        at u = (
          u.list,
          count_is u.count count,
          (λ p c. contains_from_in (u.inside p (in_from_contains u.list c))),
          vanishes_from_lifted u.list f
              (subst (λ (vs : List (List ℤ)). Annihilates vs v) u.same
              (all_from_each (each_from_in pivots (λ w i. z.zero w (in_from_contains z.list (chosen w (contains_from_in i))))))),
          λ g l h. facet.determined g l (vanishes_with_from_along points f g
              (along_from (lifted points) v (vector_of g) z (kernel (vector_of g) (ap suc l)
              (subst (λ (vs : List (List ℤ)). Annihilates vs (vector_of g)) (sym u.same) (annihilates_lifted u.list g h))))),
        )
          where
            count_is : length u.list ≡ length pivots → length pivots + 1 ≡ suc n → length u.list ≡ n
            count_is e e' = omega arith
