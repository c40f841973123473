-- How small the points, the facets and the combinations of a step are.
use Rattle.std.proofs.Common.{◌≡◌, ⊎_elim, inl, inr, ℕ, zero, suc, ◌*◌, ◌^◌, ◌<◌, ◌≤◌, List, [], ◌∷◌, ◌++◌, length, ℤ, pos, ◌<ℤ◌}
use Rattle.std.proofs.Common.{◌+ℤ◌, ◌*ℤ◌, negsuc, refl, sym, subst, All, Contains, arith}
use Rattle.std.specs.Prelude.{nat_abs, ◌-◌}
use Rattle.std.proofs.lemmas.Int.{ints}
use Rattle.std.proofs.lemmas.Bool.{cases_lt}
use Rattle.std.proofs.lemmas.List.Elements.{All-contains, All-weaker, All-contains_itself, All-push, Contains-push_cases, Contains-append_left, Contains-push}
use Rattle.lattice_theory.specs.Vector.{dot, HaveDimension}
use Rattle.lattice_theory.specs.Affine.{Affine, value, Vanishes, IsMultiple}
use Rattle.lattice_theory.specs.Combinations.{IsCombinationAt}
use Rattle.lattice_theory.specs.Size.{size, absolute_sum}
use Rattle.lattice_theory.specs.Facet.{IsFlat, IsFacet, AreFacetsInAnyOrder}
use Rattle.lattice_theory.proofs.Integers.{products_out, linear}
use Rattle.lattice_theory.proofs.Members.{empty, all_from_each, in_from_contains, contains_from_in}
use Rattle.lattice_theory.proofs.Divisibility.{primitive_nonzero}
use Rattle.lattice_theory.proofs.Vectors.{nonzero_entry}
use Rattle.lattice_theory.proofs.Sizes.{fewer_size}
use Rattle.facet_theory.specs.Solid.{AreSolid}
use Rattle.facet_theory.proofs.FacetPoints.{facet_by_points_lem}
use Rattle.facet_theory.proofs.Hull.{some_positive_constant_lem}
use Rattle.ridge_theory.specs.Ridges.{IsRidge, HasOneMore}
use Rattle.ridge_theory.proofs.OneMore.{more_are_solid_lem, ridges_give_facets_lem}
use Rattle.ridge_theory.proofs.Pairs.{opposite_facets_combine_lem}
use Rattle.normal_bounds.specs.Bounds.{EntriesWithin}
use Rattle.normal_bounds.proofs.Sizes.{point_absolute_sum_lem}
use Rattle.normal_bounds.proofs.Normals.{normal_bound_lem}
use Rattle.std.proofs.Math.Nat.{mul-le-mul_right}
use Rattle.normal_bounds.proofs.Numbers.{entries_fit_lem}
use Rattle.lattice_core.specs.Limits.{size_limit_of, IsSized}
use Rattle.lattice_core.specs.Combine.{IsSmallAt, twice_limit, IsFixedWithinLimit, HasFixedCombination}
use Rattle.lattice_core.proofs.SizeLimits.{limit_bound, limit_positive}
use Rattle.hull_growth.specs.steps.Growing.{IsHeld, IsGrowthStep}

-- each point within the size limit is small
pub points_small : (n : ℕ) (points : List (List ℤ)) → HaveDimension n points → IsSized n points
    → All (λ p. absolute_sum p ≤ size_limit_of n) points
points_small n points d s = All-weaker (λ p. absolute_sum p ≤ size n points) (λ p. absolute_sum p ≤ size_limit_of n)
    (λ p h. omega arith) points (point_absolute_sum_lem n points d)

-- no larger than the limit of the plane
pub points_bound : (n : ℕ) (points : List (List ℤ)) → HaveDimension n points → IsSized n points → All (λ p. absolute_sum p ≤ 2 ^ 30) points
points_bound n points d s = All-weaker (λ p. absolute_sum p ≤ size_limit_of n) (λ p. absolute_sum p ≤ 2 ^ 30) (λ p h.
    let b = limit_bound n in omega arith) points (points_small n points d s)

-- some of the points within the limit are within it
pub fewer_sized : (n : ℕ) (few points : List (List ℤ)) → ((p : List ℤ) → Contains few p → Contains points p) → IsSized n points
    → IsSized n few
fewer_sized n few points among s =
    let less = fewer_size n few points (λ p i. in_from_contains points (among p (contains_from_in i))) in
    omega arith

-- they have the points' dimension
pub fewer_dimension : (n : ℕ) (few points : List (List ℤ)) → ((p : List ℤ) → Contains few p → Contains points p) → HaveDimension n points
    → HaveDimension n few
fewer_dimension n few points among d =
    All-weaker (Contains few) (λ p. length p ≡ n) (λ p c. All-contains (λ q. length q ≡ n) points p d (among p c)) few
    (All-contains_itself few)

-- a facet of points within the limit is fixed by points within it
pub facet_fixed : (n : ℕ) (points : List (List ℤ)) (f : Affine) → AreSolid n points → IsSized n points → IsFacet n points f
    → IsFixedWithinLimit n f
facet_fixed n points f solid sized facet = by (facet_by_points_lem n points solid f facet)
  where
    by : (on : List (List ℤ)) × (length on ≡ n) × ((p : List ℤ) → Contains on p → Contains points p) × Vanishes on f
        × ((g : Affine) → length g.normal ≡ n → Vanishes on g → IsMultiple g f) → IsFixedWithinLimit n f
    by (on, count, among, zeros, only) = record {
      points = on;
      count = count;
      dimension = fewer_dimension n on points among solid.dimension;
      small = fewer_sized n on points among sized;
      fixed = record { dimension = facet.dimension; primitive = facet.primitive; vanishes = zeros; determined = only };
    }

-- one more product with an entry 0
zero_more : (c b d : ℤ) → nat_abs b ≤ 0 → d ≡ pos 0 → c *ℤ b +ℤ d ≡ pos 0
zero_more c (pos zero) d h e = simp products_out (omega (arith, linear))
zero_more c (pos (suc b)) d h e = absurd (omega (arith, ints))
zero_more c (negsuc b) d h e = absurd (omega (arith, ints))

-- a vector of absolute sum 0 pairs to 0
zero_absolute_sum : (x p : List ℤ) → absolute_sum p ≤ 0 → dot x p ≡ pos 0
zero_absolute_sum [] p h = refl
zero_absolute_sum (c ∷ x) [] h = refl
zero_absolute_sum (c ∷ x) (b ∷ p) h = zero_more c b (dot x p) (omega arith) (zero_absolute_sum x p (omega arith))

-- points with a facet that aren't flat have a positive size: with size 0 a function with the facet's normal would vanish on them
pub size_positive : (n : ℕ) (points : List (List ℤ)) → AreSolid n points → (f : Affine) → IsFacet n points f → 1 ≤ size n points
size_positive n points s f h = ⊎_elim (λ (l : 0 < size n points). omega arith) (λ (l : size n points ≤ 0). absurd (s.solid (flat l)))
    (cases_lt 0 (size n points))
  where
    at : (p : List ℤ) → size n points ≤ 0 → absolute_sum p ≤ size n points
        → value (record { normal = f.normal; constant = pos 0 }) p ≡ pos 0
    at p l w = let e = zero_absolute_sum f.normal p (omega arith) in omega (arith, linear)

    flat : size n points ≤ 0 → IsFlat n points
    flat l = record {
      function = record { normal = f.normal; constant = pos 0 };
      dimension = h.dimension;
      nonconstant = (let (k, l, e) = nonzero_entry f.normal (primitive_nonzero f.normal h.primitive) in (k, e.nonzero));
      vanishes = All-weaker (λ p. absolute_sum p ≤ size n points) (λ p. value (record { normal = f.normal; constant = pos 0 }) p ≡ pos 0)
          (λ p w. at p l w) points (point_absolute_sum_lem n points s.dimension);
    }

-- what the laws suppose, where there are coordinates
pub solid_at : (k : ℕ) (points : List (List ℤ)) → HaveDimension (suc k) points → (IsFlat (suc k) points → ⊥) → AreSolid (suc k) points
solid_at k points d s = record { coordinates = omega arith; dimension = d; solid = s }

-- a facet has coordinates
pub no_facet : (f : Affine) (points : List (List ℤ)) → IsFacet 0 points f → ⊥
no_facet f points h = primitive_nonzero f.normal h.primitive (without f.normal h.dimension)
  where
    without : (x : List ℤ) → length x ≡ 0 → All (λ a. a ≡ pos 0) x
    without [] e = all_from_each empty
    without (a ∷ x) e = absurd (omega arith)

-- points within the limit that aren't flat have 1 to 6 coordinates
pub solid_coordinates : (n : ℕ) (points : List (List ℤ)) → AreSolid n points → IsSized n points → (1 ≤ n) × (n ≤ 6)
solid_coordinates n points solid sized =
    let some = some_positive_constant_lem n points solid in
    let large = size_positive n points solid some.0 some.1 in
    limited n (omega arith)
  where
    limited : (m : ℕ) → 1 ≤ size_limit_of m → (1 ≤ m) × (m ≤ 6)
    limited zero h = absurd (omega arith)
    limited (suc zero) h = (omega arith, omega arith)
    limited (suc (suc zero)) h = (omega arith, omega arith)
    limited (suc (suc (suc zero))) h = (omega arith, omega arith)
    limited (suc (suc (suc (suc zero)))) h = (omega arith, omega arith)
    limited (suc (suc (suc (suc (suc zero))))) h = (omega arith, omega arith)
    limited (suc (suc (suc (suc (suc (suc zero)))))) h = (omega arith, omega arith)
    limited (suc (suc (suc (suc (suc (suc (suc m))))))) h = absurd (omega arith)

-- what is below a power of two is below a larger one
constant_small : (c p s : ℕ) → c ≤ p * s → p < 2 ^ 63 → s ≤ 2 ^ 30 → c ≤ 2 ^ 100
constant_small c p s h k l = omega (arith, mul-le-mul_right {m = p} {n = 2 ^ 63} s (omega arith))

-- how small it is then
pub record IsSmallFunction (n : ℕ) (f : Affine) : Type 0 where
  pub entries : EntriesWithin (twice_limit n ^ (n - 1)) f.normal
  pub constant : nat_abs f.constant ≤ 2 ^ 100
  pub values : (q : List ℤ) → absolute_sum q ≤ size_limit_of n → nat_abs (value f q) ≤ twice_limit n ^ n

pub fixed_is_small : (n : ℕ) (f : Affine) → 1 ≤ n → n ≤ 6 → IsFixedWithinLimit n f → IsSmallFunction n f
fixed_is_small zero f least most h = absurd (omega arith)
fixed_is_small (suc k) f least most h =
    let S = size_limit_of (suc k) in
    let bound = normal_bound_lem k S h.points f (limit_positive (suc k) least most) h.count h.dimension
    (points_small (suc k) h.points h.dimension h.small) h.fixed in
    record {
      entries = subst (λ (j : ℕ). EntriesWithin (twice_limit (suc k) ^ j) f.normal) (behind k) bound.0;
      constant = constant_small (nat_abs f.constant) ((2 * S) ^ k) S bound.1 (entries_fit_lem (suc k) k S (omega arith) (omega arith))
          (limit_bound (suc k));
      values = bound.2;
    }
  where
    behind : (k : ℕ) → k ≡ suc k - 1
    behind k = omega arith

-- so are the facets of points within the limit
pub facet_small : (n : ℕ) (points : List (List ℤ)) (f : Affine) → AreSolid n points → IsSized n points → IsFacet n points f
    → IsSmallFunction n f
facet_small n points f solid sized facet =
    let range = solid_coordinates n points solid sized in
    fixed_is_small n f range.0 range.1 (facet_fixed n points f solid sized facet)

-- also without coordinates
pub facets_constants : (n : ℕ) (points : List (List ℤ)) (facets : List Affine) → HaveDimension n points → (IsFlat n points → ⊥)
    → IsSized n points → AreFacetsInAnyOrder n points facets → All (λ f. nat_abs f.constant ≤ 2 ^ 100) facets
facets_constants zero points facets d s k h = All-weaker (Contains facets) (λ f. nat_abs f.constant ≤ 2 ^ 100)
    (λ f c. absurd (no_facet f points ((h f).0 c))) facets (All-contains_itself facets)
facets_constants (suc k) points facets d s t h = All-weaker (Contains facets) (λ f. nat_abs f.constant ≤ 2 ^ 100)
    (λ f c. (facet_small (suc k) points f (solid_at k points d s) t ((h f).0 c)).constant) facets (All-contains_itself facets)

-- the held facets
pub held_facet : (n : ℕ) (corners : List (List ℤ)) (fs : List Affine) (rows : List ℕ) (f : Affine) → IsHeld n corners fs rows → Contains fs f
    → IsSmallFunction n f
held_facet n corners fs rows f h c =
    facet_small n corners f h.solid h.sized ((h.hull.members f).0 c)

-- their constants
pub held_constants : (n : ℕ) (corners : List (List ℤ)) (fs : List Affine) (rows : List ℕ) → IsHeld n corners fs rows
    → All (λ f. nat_abs f.constant ≤ 2 ^ 100) fs
held_constants n corners fs rows h = All-weaker (Contains fs) (λ f. nat_abs f.constant ≤ 2 ^ 100)
    (λ f c. (held_facet n corners fs rows f h c).constant) fs (All-contains_itself fs)

-- and dimensions
pub held_dimension : (n : ℕ) (corners : List (List ℤ)) (fs : List Affine) (rows : List ℕ) → IsHeld n corners fs rows
    → All (λ f. length f.normal ≡ n) fs
held_dimension n corners fs rows h = All-weaker (Contains fs) (λ f. length f.normal ≡ n)
    (λ f c. ((h.hull.members f).0 c).dimension) fs (All-contains_itself fs)

-- the held corners
pub held_corners : (n : ℕ) (corners : List (List ℤ)) (fs : List Affine) (rows : List ℕ) → IsHeld n corners fs rows
    → All (λ c. absolute_sum c ≤ 2 ^ 30) corners
held_corners n corners fs rows h = points_bound n corners h.solid.dimension h.sized

-- the corners and the point
pub one_more : (corners : List (List ℤ)) (p : List ℤ) → HasOneMore corners p (corners ++ (p ∷ []))
one_more corners p x = (
  λ c. ⊎_elim (λ (i : Contains corners x). inl i) (λ (e : p ≡ x). inr (sym e)) (Contains-push_cases corners p x c),
  λ s. ⊎_elim (λ (i : Contains corners x). Contains-append_left corners (p ∷ []) x i)
      (λ (e : x ≡ p). subst (Contains (corners ++ (p ∷ []))) (sym e) (Contains-push corners p)) s,
)

-- with the point they aren't flat
pub step_solid : (corners : List (List ℤ)) (fs : List Affine) (rows : List ℕ) (p : List ℤ) → IsGrowthStep corners fs rows p
    → AreSolid (length p) (corners ++ (p ∷ []))
step_solid corners fs rows p s = more_are_solid_lem (length p) corners (corners ++ (p ∷ [])) s.held.solid
    (All-push (λ q. length q ≡ length p) corners p s.held.solid.dimension refl)
    (λ x c. Contains-append_left corners (p ∷ []) x c)

-- the point is small
pub step_point : (corners : List (List ℤ)) (fs : List Affine) (rows : List ℕ) (p : List ℤ) → IsGrowthStep corners fs rows p
    → absolute_sum p ≤ size_limit_of (length p)
step_point corners fs rows p s = All-contains (λ q. absolute_sum q ≤ size_limit_of (length p)) (corners ++ (p ∷ [])) p
    (points_small (length p) (corners ++ (p ∷ [])) (step_solid corners fs rows p s).dimension s.within) (Contains-push corners p)

-- no larger than the limit of the plane
pub step_point_bound : (corners : List (List ℤ)) (fs : List Affine) (rows : List ℕ) (p : List ℤ) → IsGrowthStep corners fs rows p
    → absolute_sum p ≤ 2 ^ 30
step_point_bound corners fs rows p s = let a = step_point corners fs rows p s in let b = limit_bound (length p) in omega arith

-- a facet is small at it
pub step_small : (corners : List (List ℤ)) (fs : List Affine) (rows : List ℕ) (p : List ℤ) (f : Affine) → IsGrowthStep corners fs rows p
    → Contains fs f → IsSmallAt p f
step_small corners fs rows p f s c =
    let small = held_facet (length p) corners fs rows f s.held c in
    record {
      dimension = ((s.held.hull.members f).0 c).dimension;
      entries = small.entries;
      at_point = small.values p (step_point corners fs rows p s);
    }

-- two facets that meet in a ridge have a combination, which is fixed by points within the limit
pub step_fixed : (corners : List (List ℤ)) (fs : List Affine) (rows : List ℕ) (p : List ℤ) (f g : Affine) → IsGrowthStep corners fs rows p
    → Contains fs f → Contains fs g → pos 0 <ℤ value f p → value g p <ℤ pos 0 → IsRidge (length p) corners f g
    → HasFixedCombination f g p
step_fixed corners fs rows p f g s c d before behind ridge =
    by (opposite_facets_combine_lem (length p) corners p s.held.solid refl f g left right before behind)
  where
    left : IsFacet (length p) corners f
    left = (s.held.hull.members f).0 c

    right : IsFacet (length p) corners g
    right = (s.held.hull.members g).0 d

    by : (h : Affine) × IsCombinationAt f g p h → HasFixedCombination f g p
    by (h, k) = record {
      function = h;
      combination = k;
      fixed = facet_fixed (length p) (corners ++ (p ∷ [])) h (step_solid corners fs rows p s) s.within
          ((ridges_give_facets_lem (length p) corners p (corners ++ (p ∷ [])) s.held.solid refl (one_more corners p) f g h left right before
          behind k).1 ridge);
    }
