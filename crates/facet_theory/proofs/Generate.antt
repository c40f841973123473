-- The theorem on facets: each function that is nonnegative on points that aren't flat is, up to a positive multiple, a sum of facets.
use Rattle.std.proofs.Common.{◌≡◌, ℕ, zero, suc, ◌<◌, List, [], ◌∷◌, ℤ, pos, ◌+ℤ◌, ◌*ℤ◌, refl, sym, ap, ◌∙◌, arith}
use Rattle.std.proofs.lemmas.Int.{ints}
use Rattle.lattice_theory.specs.Vector.{dot}
use Rattle.lattice_theory.specs.Affine.{Affine, value_over}
use Rattle.lattice_theory.specs.Facet.{IsFacet}
use Rattle.lattice_theory.proofs.Integers.{products_out, linear, positive_is}
use Rattle.lattice_theory.proofs.Members.{In, here, there, Each, empty, more, all_from_each}
use Rattle.facet_theory.specs.Sums.{total_over, IsSumOfFacets}
use Rattle.facet_theory.specs.Laws.{FacetsGenerate}
use Rattle.facet_theory.proofs.Rays.{IsRay, IsSumOfRays, total, rays_generate}
use Rattle.facet_theory.proofs.Lifted.{vector_of, lifted, lifted_value_over, above_from_nonnegative, lifted_dimension, lifted_solid}
use Rattle.facet_theory.proofs.FacetOfRay.{FacetOf, facet_of_ray}

-- a function k times before a list
copies : ℕ → Affine → List Affine → List Affine
copies zero f fs = fs
copies (suc k) f fs = f ∷ copies k f fs

-- the sum with the copies
total-copies : (k : ℕ) (f : Affine) (fs : List Affine) (x : List ℤ) (d : ℤ) → total_over (copies k f fs) x d ≡ pos k *ℤ value_over f x d
    +ℤ total_over fs x d
unfolding copies
total-copies zero f fs x d = simp products_out (omega (arith, linear))
total-copies (suc k) f fs x d = let e = total-copies k f fs x d in
    one_more (value_over f x d) (total_over (copies k f fs) x d) (total_over fs x d) k e
  where
    one_more : (v t s : ℤ) (k : ℕ) → t ≡ pos k *ℤ v +ℤ s → v +ℤ t ≡ pos (suc k) *ℤ v +ℤ s
    one_more v t s k e = omega (arith, ints)

-- what holds of f and of the list holds of all
copies_each : {P : Affine → Type 0} (k : ℕ) (f : Affine) (fs : List Affine) → P f → Each P fs → Each P (copies k f fs)
unfolding copies
copies_each zero f fs p ps = ps
copies_each (suc k) f fs p ps = more p (copies_each k f fs p ps)

-- facets whose sum is the sum of some rays
record FacetsOf (n : ℕ) (points rays : List (List ℤ)) : Type 0 where
  functions : List Affine
  facets : Each (IsFacet n points) functions
  sums : (x : List ℤ) (d : ℤ) → total rays (d ∷ x) ≡ total_over functions x d

-- each ray by its facet, as often as it is a multiple of it
facets_of_rays : (n : ℕ) (points : List (List ℤ)) → 0 < n → (rays : List (List ℤ))
    → ((r : List ℤ) → In r rays → IsRay (suc n) (lifted points) r) → FacetsOf n points rays
facets_of_rays n points p [] h = record { functions = []; facets = empty; sums = λ x d. refl }
facets_of_rays n points p (r ∷ rays) h = by (facet_of_ray n points p r (h r here)) (facets_of_rays n points p rays (λ s i. h s (there i)))
  where
    by : FacetOf n points r → FacetsOf n points rays → FacetsOf n points (r ∷ rays)
    by f fs = record {
      functions = copies f.factor f.function fs.functions;
      facets = copies_each f.factor f.function fs.functions f.facet fs.facets;
      sums = λ x d. sum (dot r (d ∷ x)) (total rays (d ∷ x)) (pos f.factor) (dot (vector_of f.function) (d ∷ x)) (value_over f.function x d)
          (total_over fs.functions x d) (f.same (d ∷ x)) (lifted_value_over f.function x d) (fs.sums x d) ∙ sym
          (total-copies f.factor f.function fs.functions x d);
    }
      where
        sum : (r t k f v s : ℤ) → r ≡ k *ℤ f → f ≡ v → t ≡ s → r +ℤ t ≡ k *ℤ v +ℤ s
        sum r t k f v s e e' e'' = rw (e, e', e'') refl

-- the theorem on facets
pub facets_generate_lem : FacetsGenerate
facets_generate_lem n points solid f l h = by (rays_generate (suc n) (lifted points) (lifted_solid n points solid)
    (lifted_dimension n points solid.dimension) (vector_of f) (ap suc l) (above_from_nonnegative points f h))
  where
    sum : (m : ℤ) (k : ℕ) (f v t s : ℤ) → m ≡ pos k → f ≡ v → m *ℤ f ≡ t → t ≡ s → pos k *ℤ v ≡ s
    sum m k f v t s e e' e'' e''' = rw (← e, ← e', ← e''') e''

    by : IsSumOfRays (suc n) (lifted points) (vector_of f) → IsSumOfFacets n points f
    by r = both (positive_is r.multiplier r.positive) (facets_of_rays n points solid.coordinates r.summands r.are_rays)
      where
        both : (k : ℕ) × (0 < k) × (r.multiplier ≡ pos k) → FacetsOf n points r.summands → IsSumOfFacets n points f
        both (k, p, e) fs = record {
          multiplier = k;
          positive = p;
          summands = fs.functions;
          are_facets = all_from_each fs.facets;
          sums = λ x d. sum r.multiplier k (dot (vector_of f) (d ∷ x)) (value_over f x d) (total r.summands (d ∷ x))
              (total_over fs.functions x d) e
              (lifted_value_over f x d) (r.sums (d ∷ x)) (fs.sums x d);
        }
