-- A point of the list is a vertex exactly where no other point lies on all the facets on which it lies.
use Rattle.std.proofs.Common.{◌≡◌, ◌≢◌, ℕ, List, [], ◌∷◌, length, ℤ, pos, ◌-ℤ◌, ◌*ℤ◌, ◌≤ℤ◌, ◌<ℤ◌, ◌⊎◌, inl, inr, refl, sym, ap, ◌∙◌, arith}
use Rattle.lattice_theory.specs.Vector.{others}
use Rattle.lattice_theory.specs.Affine.{Affine, value, value_over, IsNonnegative}
use Rattle.lattice_theory.specs.Hull.{IsVertex}
use Rattle.lattice_theory.specs.Facet.{IsFacet}
use Rattle.lattice_theory.proofs.Integers.{linear, negative_or_not, positive_pos, positive_nonzero, factor_zero, *ℤ-zero}
use Rattle.lattice_theory.proofs.Members.{In, Each, more, each_from_all, in_from_contains, contains_from_in, each_weaker}
use Rattle.facet_theory.specs.Sums.{total_over, IsSumOfFacets}
use Rattle.facet_theory.specs.Laws.{VerticesByFacets}
use Rattle.facet_theory.specs.Solid.{AreSolid}
use Rattle.facet_theory.proofs.Lifted.{value_at_one}
use Rattle.facet_theory.proofs.Generate.{facets_generate_lem}
use Rattle.facet_theory.proofs.Others.{same_or_not, to_others}
use Rattle.lattice_theory.proofs.Functions.{lowered, length-lowered, value-lowered, value-lowered_self}
use Rattle.facet_theory.proofs.LeastVertex.{vertex_from_function}
use Rattle.facet_theory.proofs.ZeroSums.{ZeroSum, facet_sum_at}
use Rattle.facet_theory.proofs.Listed.{AllFacets, all_facets}
use Rattle.facet_theory.proofs.Signs.{nonnegative_same, positive_from, zero_sum, terms_zero, nonnegative_at, nonnegative_from}
use Rattle.facet_theory.proofs.Hull.{total_nonnegative}

-- p lies on each facet on which v lies
abbrev pub IsOnFacetsOf : ℕ → List (List ℤ) → List ℤ → List ℤ → Type 0
IsOnFacetsOf n points v p = (f : Affine) → IsFacet n points f → value f v ≡ pos 0 → value f p ≡ pos 0

-- a facet is nonnegative at each of the points, by its value over 1
facet_at : (n : ℕ) (points : List (List ℤ)) {p : List ℤ} → In p points → (f : Affine) → IsFacet n points f → pos 0 ≤ℤ value_over f p (pos 1)
facet_at n points {p = p} i f facet = nonnegative_same (sym (value_at_one f p)) (nonnegative_at points f facet.nonnegative i)

-- where a sum of facets is 0 at v, it is 0 wherever the facets are on which v lies
total_zero : (n : ℕ) (points : List (List ℤ)) (fs : List Affine) → Each (IsFacet n points) fs → (v x : List ℤ) (d : ℤ) → In v points
    → ((f : Affine) → IsFacet n points f → value f v ≡ pos 0 → value_over f x d ≡ pos 0) → total_over fs v (pos 1) ≡ pos 0
    → total_over fs x d ≡ pos 0
total_zero n points [] h v x d i on z = refl
total_zero n points (f ∷ fs) (more facet facets) v x d i on z = by
    (terms_zero (value_over f v (pos 1)) (total_over fs v (pos 1)) (facet_at n points i f facet)
    (total_nonnegative fs v (pos 1) (each_weaker (facet_at n points i) facets)) z) (λ e. total_zero n points fs facets v x d i on e)
  where
    by : (value_over f v (pos 1) ≡ pos 0) × (total_over fs v (pos 1) ≡ pos 0)
        → (total_over fs v (pos 1) ≡ pos 0 → total_over fs x d ≡ pos 0)
        → total_over (f ∷ fs) x d ≡ pos 0
    by (e, e') rest = zero_sum (on f facet (sym (value_at_one f v) ∙ e)) (rest e')

-- so a nonnegative function that is 0 at v is 0 at each place x/d at which the facets are on which v lies; with d = 0 its direction is
pub zero_where_facets : (n : ℕ) (points : List (List ℤ)) → AreSolid n points → (v x : List ℤ) (d : ℤ) → In v points
    → ((f : Affine) → IsFacet n points f → value f v ≡ pos 0 → value_over f x d ≡ pos 0) → (f : Affine) → length f.normal ≡ n
    → IsNonnegative points f → value f v ≡ pos 0 → value_over f x d ≡ pos 0
zero_where_facets n points solid v x d i on f l h z = by (facets_generate_lem n points solid f l h)
  where
    by : IsSumOfFacets n points f → value_over f x d ≡ pos 0
    by s = factor_zero (pos s.multiplier) (value_over f x d) (positive_nonzero (pos s.multiplier) (positive_pos s.multiplier s.positive))
        (s.sums x d ∙ total_zero n points s.summands (each_from_all (IsFacet n points) s.summands s.are_facets) v x d i on at_v)
      where
        at_v : total_over s.summands v (pos 1) ≡ pos 0
        at_v = sym (s.sums v (pos 1)) ∙ ap (λ (w : ℤ). pos s.multiplier *ℤ w) (value_at_one f v ∙ z) ∙ *ℤ-zero (pos s.multiplier)

-- at a point
pub zero_on_facets : (n : ℕ) (points : List (List ℤ)) → AreSolid n points → (v p : List ℤ) → In v points → IsOnFacetsOf n points v p
    → (f : Affine)
    → length f.normal ≡ n → IsNonnegative points f → value f v ≡ pos 0 → value f p ≡ pos 0
zero_on_facets n points solid v p i on f l h z = sym (value_at_one f p)
    ∙ zero_where_facets n points solid v p (pos 1) i (λ g facet e. value_at_one g p ∙ on g facet e) f l h z

-- a vertex is the only point on its facets
vertex_alone : (n : ℕ) (points : List (List ℤ)) → AreSolid n points → (v : List ℤ) → IsVertex n points v → (p : List ℤ) → In p points
    → IsOnFacetsOf n points v p → p ≢ v → ⊥
vertex_alone n points solid v vertex p i on n' = vertex.outside (λ f l h. by f l h (negative_or_not (value f v)))
  where
    inside : In v points
    inside = in_from_contains points vertex.member

    clash : (a b : ℤ) → a <ℤ pos 0 → b -ℤ a ≡ pos 0 → pos 0 ≤ℤ b → ⊥
    clash a b h e k = absurd (omega (arith, linear))

    above : (a b : ℤ) → a <ℤ pos 0 → pos 0 ≤ℤ b → pos 0 ≤ℤ (b -ℤ a)
    above a b h k = omega (arith, linear)

    zero_least : (a : ℤ) → a ≡ pos 0 → pos 0 ≤ℤ a
    zero_least a e = omega (arith, linear)

    less : Affine → Affine
    less f = lowered f (value f v)

    other : (f : Affine) → IsNonnegative (others points v) f → (q : List ℤ) → In q points → q ≢ v → pos 0 ≤ℤ value f q
    other f h q j m = nonnegative_at (others points v) f h (to_others points v q j m)

    at : (f : Affine) → IsNonnegative (others points v) f → value f v <ℤ pos 0 → (q : List ℤ) → In q points → (q ≡ v) ⊎ (q ≢ v)
        → pos 0 ≤ℤ value (less f) q
    at f h c q j (inl e) = zero_least (value (less f) q) (ap (value (less f)) e ∙ value-lowered_self f v)
    at f h c q j (inr m) = nonnegative_same (sym (value-lowered f (value f v) q)) (above (value f v) (value f q) c (other f h q j m))

    at_p : (f : Affine) → length f.normal ≡ n → IsNonnegative (others points v) f → value f v <ℤ pos 0 → value (less f) p ≡ pos 0
    at_p f l h c = zero_on_facets n points solid v p inside on (less f) (length-lowered n f (value f v) l)
        (nonnegative_from points (less f) (λ q j. at f h c q j (same_or_not q v))) (value-lowered_self f v)

    by : (f : Affine) → length f.normal ≡ n → IsNonnegative (others points v) f → (value f v <ℤ pos 0) ⊎ (pos 0 ≤ℤ value f v)
        → pos 0 ≤ℤ value f v
    by f l h (inr k) = k
    by f l h (inl c) = absurd (clash (value f v) (value f p) c (sym (value-lowered f (value f v) p) ∙ at_p f l h c) (other f h p i n'))

-- a point that is alone on its facets is a vertex
vertex_from_alone : (n : ℕ) (points : List (List ℤ)) → AreSolid n points → (v : List ℤ) → In v points
    → ((p : List ℤ) → In p points → IsOnFacetsOf n points v p → p ≡ v) → IsVertex n points v
vertex_from_alone n points solid v i alone = by (all_facets n points solid)
  where
    by : AllFacets n points → IsVertex n points v
    by a = at (facet_sum_at n points a.functions a.facets v (pos 1))
      where
        at : ZeroSum n points a.functions v (pos 1) → IsVertex n points v
        at t = vertex_from_function n points v i t.function t.dimension (sym (value_at_one t.function v) ∙ t.zero_there)
            (λ q j n'. positive_from (value t.function q) (t.nonnegative q j)
            (λ z. n' (alone q j (λ f facet e. t.all q j z f (a.all f facet) (value_at_one f v ∙ e)))))

-- the law on vertices
pub vertices_by_facets_lem : VerticesByFacets
vertices_by_facets_lem n points solid v c = (
  (λ vertex p c' on. only p (in_from_contains points c') on vertex (same_or_not p v)),
  (λ alone. vertex_from_alone n points solid v (in_from_contains points c) (λ p i on. alone p (contains_from_in i) on)),
)
  where
    only : (p : List ℤ) → In p points → IsOnFacetsOf n points v p → IsVertex n points v → (p ≡ v) ⊎ (p ≢ v) → p ≡ v
    only p i on vertex (inl e) = e
    only p i on vertex (inr n') = absurd (vertex_alone n points solid v vertex p i on n')
