-- What the theorem on facets says of the hull: facets tell it, it is bounded, and some facet has a positive constant.
use Rattle.std.proofs.Common.{◌≡◌, ℕ, ◌<◌, ◌≤◌, List, [], ◌∷◌, ℤ, pos, negsuc, ◌+ℤ◌, ◌-ℤ◌, ◌*ℤ◌, neg_ℤ, ◌≤ℤ◌, ◌<ℤ◌, ◌⊎◌, inl, inr, sym, ◌∙◌, arith, ⊎_elim, length}
use Rattle.std.proofs.lemmas.Bool.{cases_lt}
use Rattle.std.proofs.lemmas.Int.{ints}
use Rattle.std.specs.List.{Contains}
use Rattle.lattice_theory.specs.Vector.{entry, dot}
use Rattle.lattice_theory.specs.Affine.{Affine, value_over, IsNonnegative}
use Rattle.lattice_theory.specs.Facet.{IsFacet}
use Rattle.lattice_theory.specs.Hull.{InHull}
use Rattle.lattice_theory.proofs.Integers.{linear, nonnegative_factor, positive_or_not, positive_pos, product_positive, difference_from, order_from}
use Rattle.lattice_theory.proofs.Members.{In, here, Each, more, each_from_all, each_weaker, contains_from_in}
use Rattle.lattice_theory.proofs.Vectors.{zeros, length-zeros, dot-zeros, dot-nil, zero_from_entries, entry_past}
use Rattle.facet_theory.specs.Sums.{total_over, IsSumOfFacets}
use Rattle.facet_theory.specs.Laws.{HullByFacets, HullInBox, FacetsBound, SomePositiveConstant}
use Rattle.facet_theory.specs.Solid.{AreSolid}
use Rattle.facet_theory.proofs.Lifted.{value_at_one, some_point}
use Rattle.facet_theory.proofs.Generate.{facets_generate_lem}
use Rattle.facet_theory.proofs.Smallest.{Smallest, smallest_of}
use Rattle.facet_theory.proofs.Coordinates.{above_low, below_high, length-above_low, length-below_high, above_low-value, below_high-value, above_low-direction, below_high-direction}
use Rattle.facet_theory.proofs.Signs.{nonnegative_same, positive_same, nonnegative_sum, nonnegative_from}

-- where each of some functions is nonnegative, their sum is
pub total_nonnegative : (fs : List Affine) (x : List ℤ) (d : ℤ) → Each (λ f. pos 0 ≤ℤ value_over f x d) fs → pos 0 ≤ℤ total_over fs x d
total_nonnegative [] x d h = omega (arith, linear)
total_nonnegative (f ∷ fs) x d (more p ps) = nonnegative_sum p (total_nonnegative fs x d ps)

-- a sum of facets is nonnegative at x/d where the facets are
pub sum_nonnegative : (n : ℕ) (points : List (List ℤ)) (f : Affine) → IsSumOfFacets n points f → (x : List ℤ) (d : ℤ)
    → ((g : Affine) → IsFacet n points g → pos 0 ≤ℤ value_over g x d) → pos 0 ≤ℤ value_over f x d
sum_nonnegative n points f s x d h = nonnegative_factor (pos s.multiplier) (value_over f x d) (positive_pos s.multiplier s.positive)
    (nonnegative_same (sym (s.sums x d)) (total_nonnegative s.summands x d
    (each_weaker h (each_from_all (IsFacet n points) s.summands s.are_facets))))

-- the law on the hull and the facets
pub hull_by_facets_lem : HullByFacets
hull_by_facets_lem n points solid x l = (
  (λ h f facet. h f facet.dimension facet.nonnegative),
  (λ h f e nonnegative. nonnegative_same (value_at_one f x)
      (sum_nonnegative n points f (facets_generate_lem n points solid f e nonnegative) x (pos 1)
      (λ g facet. nonnegative_same (sym (value_at_one g x)) (h g facet)))),
)

-- the functions that say that the coordinate i is at least low, or at most high, at each point
low_nonnegative : (n i : ℕ) (points : List (List ℤ)) (low : ℤ) → i < n → ((q : List ℤ) → In q points → low ≤ℤ entry q i)
    → IsNonnegative points (above_low n i low)
low_nonnegative n i points low h least = nonnegative_from points (above_low n i low)
    (λ q j. nonnegative_same (sym (above_low-value n i low h q)) (difference_from low (entry q i) (least q j)))

-- the upper one
high_nonnegative : (n i : ℕ) (points : List (List ℤ)) (high : ℤ) → i < n → ((q : List ℤ) → In q points → entry q i ≤ℤ high)
    → IsNonnegative points (below_high n i high)
high_nonnegative n i points high h most = nonnegative_from points (below_high n i high)
    (λ q j. nonnegative_same (sym (below_high-value n i high h q)) (difference_from (entry q i) high (most q j)))

-- the least and the greatest entry of the coordinate i: lower and upper bounds of the points, with the points at which they are reached
record Reached (i : ℕ) (points : List (List ℤ)) : Type 0 where
  lowest : List ℤ
  lowest_inside : In lowest points
  low : (q : List ℤ) → In q points → entry lowest i ≤ℤ entry q i
  highest : List ℤ
  highest_inside : In highest points
  high : (q : List ℤ) → In q points → entry q i ≤ℤ entry highest i

-- both exist where there is a point
reached : (i : ℕ) (points : List (List ℤ)) {p : List ℤ} → In p points → Reached i points
reached i points j = by (smallest_of (λ q. entry q i) points j) (smallest_of (λ q. neg_ℤ (entry q i)) points j)
  where
    most : (a b : ℤ) → neg_ℤ a ≤ℤ neg_ℤ b → b ≤ℤ a
    most a b h = omega (arith, linear)

    by : Smallest points (λ q. entry q i) → Smallest points (λ q. neg_ℤ (entry q i)) → Reached i points
    by s t = record {
      lowest = s.place;
      lowest_inside = s.inside;
      low = s.least;
      highest = t.place;
      highest_inside = t.inside;
      high = λ q k. most (entry t.place i) (entry q i) (t.least q k);
    }

-- no point is in the hull of none
hull_of_none : (n : ℕ) (x : List ℤ) → InHull n [] x → ⊥
hull_of_none n x h = negative (dot (zeros n) x) (dot-zeros n x) (h (record { normal = zeros n; constant = negsuc 0 }) (length-zeros n)
    (λ k d l. absurd (omega arith)))
  where
    negative : (a : ℤ) → a ≡ pos 0 → pos 0 ≤ℤ (a +ℤ negsuc 0) → ⊥
    negative a e k = absurd (omega (arith, linear))

-- a point of the hull is within these bounds
in_box : (n : ℕ) (points : List (List ℤ)) (x : List ℤ) → InHull n points x → (i : ℕ) → i < n → Reached i points
    → (low : List ℤ) × (high : List ℤ) × Contains points low × Contains points high × (entry low i ≤ℤ entry x i)
    × (entry x i ≤ℤ entry high i)
in_box n points x h i l r = (
  r.lowest,
  r.highest,
  contains_from_in r.lowest_inside,
  contains_from_in r.highest_inside,
  order_from a
      (entry x i) at_low,
  order_from (entry x i) b at_high,
)
  where
    a : ℤ
    a = entry r.lowest i

    b : ℤ
    b = entry r.highest i

    at_low : pos 0 ≤ℤ (entry x i -ℤ a)
    at_low = nonnegative_same (above_low-value n i a l x)
        (h (above_low n i a) (length-above_low n i a) (low_nonnegative n i points a l r.low))

    at_high : pos 0 ≤ℤ (b -ℤ entry x i)
    at_high = nonnegative_same (below_high-value n i b l x)
        (h (below_high n i b) (length-below_high n i b) (high_nonnegative n i points b l r.high))

-- the law on the box
pub hull_in_box_lem : HullInBox
hull_in_box_lem n [] dims x h i l = absurd (hull_of_none n x h)
hull_in_box_lem n (p ∷ points) dims x h i l = in_box n (p ∷ points) x h i l (reached i (p ∷ points) here)

-- a direction that is nonnegative on the normals of facets has entries 0
direction_zero : (n : ℕ) (points : List (List ℤ)) → AreSolid n points → (y : List ℤ)
    → ((f : Affine) → IsFacet n points f → pos 0 ≤ℤ dot f.normal y)
    → (i : ℕ) → i < n → Reached i points → entry y i ≡ pos 0
direction_zero n points solid y h i l r = both (entry y i) at_low at_high
  where
    at_infinity : (a c : ℤ) → pos 0 ≤ℤ a → pos 0 ≤ℤ (a +ℤ pos 0 *ℤ c)
    at_infinity a c h = omega (arith, ints)

    facets : (g : Affine) → IsFacet n points g → pos 0 ≤ℤ value_over g y (pos 0)
    facets g facet = at_infinity (dot g.normal y) g.constant (h g facet)

    direction : (f : Affine) → length f.normal ≡ n → IsNonnegative points f → pos 0 ≤ℤ value_over f y (pos 0)
    direction f e k = sum_nonnegative n points f (facets_generate_lem n points solid f e k) y (pos 0) facets

    a : ℤ
    a = entry r.lowest i

    b : ℤ
    b = entry r.highest i

    at_low : pos 0 ≤ℤ entry y i
    at_low = nonnegative_same (above_low-direction n i a l y)
        (direction (above_low n i a) (length-above_low n i a) (low_nonnegative n i points a l r.low))

    at_high : pos 0 ≤ℤ neg_ℤ (entry y i)
    at_high = nonnegative_same (below_high-direction n i b l y)
        (direction (below_high n i b) (length-below_high n i b) (high_nonnegative n i points b l r.high))

    both : (a : ℤ) → pos 0 ≤ℤ a → pos 0 ≤ℤ neg_ℤ a → a ≡ pos 0
    both a h k = omega (arith, linear)

-- the law on directions
pub facets_bound_lem : FacetsBound
facets_bound_lem n points solid y l h = zero_from_entries y (λ i. ⊎_elim
    (λ (b : i < n). direction_zero n points solid y h i b (reached i points (some_point n points solid).1))
    (λ (b : n ≤ i). entry_past y i (omega arith))
    (cases_lt i n))

-- where a sum is positive, some term is
pub some_positive : (P : Affine → Type 0) (fs : List Affine) (x : List ℤ) (d : ℤ) → Each P fs → pos 0 <ℤ total_over fs x d
    → (f : Affine) × P f × (pos 0 <ℤ value_over f x d)
some_positive P [] x d h p = absurd (omega (arith, linear))
some_positive P (f ∷ fs) x d (more holds all) p = by (positive_or_not (value_over f x d)) (λ q. some_positive P fs x d all q)
  where
    rest : (a b : ℤ) → a ≤ℤ pos 0 → pos 0 <ℤ (a +ℤ b) → pos 0 <ℤ b
    rest a b h k = omega (arith, linear)

    by : (pos 0 <ℤ value_over f x d) ⊎ (value_over f x d ≤ℤ pos 0)
        → (pos 0 <ℤ total_over fs x d → (f : Affine) × P f × (pos 0 <ℤ value_over f x d)) → (f : Affine) × P f × (pos 0 <ℤ value_over f x d)
    by (inl q) later = (f, holds, q)
    by (inr q) later = later (rest (value_over f x d) (total_over fs x d) q p)

-- the law on constants: the constant 1 is a sum of facets, so some summand has a positive constant
pub some_positive_constant_lem : SomePositiveConstant
some_positive_constant_lem n points solid = by (facets_generate_lem n points solid one (length-zeros n)
    (nonnegative_from points one (λ p i. one_positive (dot (zeros n) p) (dot-zeros n p))))
  where
    one : Affine
    one = record { normal = zeros n; constant = pos 1 }

    one_positive : (a : ℤ) → a ≡ pos 0 → pos 0 ≤ℤ (a +ℤ pos 1)
    one_positive a e = omega (arith, linear)

    constant : (f : Affine) → value_over f [] (pos 1) ≡ f.constant
    constant f = value_at_one f [] ∙ nil (dot f.normal []) f.constant (dot-nil f.normal)
      where
        nil : (a c : ℤ) → a ≡ pos 0 → a +ℤ c ≡ c
        nil a c e = omega (arith, linear)

    by : IsSumOfFacets n points one → (f : Affine) × IsFacet n points f × (pos 0 <ℤ f.constant)
    by s = found (some_positive (IsFacet n points) s.summands [] (pos 1) (each_from_all (IsFacet n points) s.summands s.are_facets)
        (positive_same (s.sums [] (pos 1)) (product_positive (pos s.multiplier) (value_over one [] (pos 1))
        (positive_pos s.multiplier s.positive)
        (positive_same (sym (constant one)) (omega (arith, linear))))))
      where
        found : (f : Affine) × IsFacet n points f × (pos 0 <ℤ value_over f [] (pos 1)) → (f : Affine) × IsFacet n points f
            × (pos 0 <ℤ f.constant)
        found (f, facet, p) = (f, facet, positive_same (constant f) p)
