-- How large facets are: each is fixed by some of the points, whose absolute sums are at most their size.
use Rattle.std.proofs.Common.{◌≡◌, ℕ, zero, suc, ◌*◌, ◌^◌, ◌≤◌, List, length, ℤ, nat_abs, ap, subst, All, Contains, arith}
use Rattle.std.specs.Prelude.{◌-◌}
use Rattle.std.proofs.Math.Nat.{mul-le-mul_left, pow-le-pow_left}
use Rattle.std.proofs.lemmas.Nat.{mul-le}
use Rattle.std.proofs.lemmas.List.Elements.{All-contains, All-weaker, All-contains_itself}
use Rattle.lattice_theory.specs.Vector.{HaveDimension}
use Rattle.lattice_theory.specs.Affine.{Affine, Vanishes, IsMultiple}
use Rattle.lattice_theory.specs.Size.{size, absolute_sum}
use Rattle.lattice_theory.specs.Facet.{IsFlat, IsFacet, AreFacets, AreFacetsInAnyOrder}
use Rattle.lattice_theory.proofs.Members.{in_from_contains, contains_from_in}
use Rattle.lattice_theory.proofs.Sizes.{fewer_size}
use Rattle.facet_theory.specs.Solid.{AreSolid}
use Rattle.facet_theory.proofs.FacetPoints.{facet_by_points_lem}
use Rattle.normal_bounds.specs.Bounds.{IsFixedBy}
use Rattle.normal_bounds.proofs.Sizes.{all_within, point_absolute_sum_lem}
use Rattle.normal_bounds.proofs.Normals.{normal_bound_lem}
use Rattle.lattice_core.specs.ValueWidths.{IsWithin, FitsWidth, Serves}
use Rattle.lattice_core.specs.declared.value_widths.Width.{Width}
use Rattle.hull_growth.proofs.Small.{size_positive, no_facet, solid_at}
use Rattle.hull.specs.Laws.{FacetsBounded}

-- what the bound's exponent is
one_less : (k : ℕ) → k ≡ suc k - 1
one_less k = omega arith

-- the bound for a facet that is fixed by some of the points
fixed_within : (k : ℕ) (points on : List (List ℤ)) (f : Affine) → HaveDimension (suc k) points → 1 ≤ size (suc k) points → length on ≡ suc k
    → ((p : List ℤ) → Contains on p → Contains points p)
    → IsFixedBy (suc k) on f → IsWithin (suc k) (size (suc k) points) f
fixed_within k points on f d t l inside fixed =
    let b = normal_bound_lem k (size (suc k) points) on f t l dimension absolute_sums fixed in
    let power : (2 * size (suc k) points) ^ k ≡ (2 * size (suc k) points) ^ (suc k - 1) =
    ap (λ (m : ℕ). (2 * size (suc k) points) ^ m) (one_less k) in
    record {
      normal = subst (λ (m : ℕ). All (λ a. nat_abs a ≤ m) f.normal) power (all_within ((2 * size (suc k) points) ^ k) f.normal b.0);
      constant = subst (λ (m : ℕ). nat_abs f.constant ≤ m * size (suc k) points) power b.1;
    }
  where
    dimension : HaveDimension (suc k) on
    dimension = All-weaker (Contains on) (λ p. length p ≡ suc k) (λ p c. All-contains (λ q. length q ≡ suc k) points p d (inside p c)) on
        (All-contains_itself on)

    absolute_sums : All (λ p. absolute_sum p ≤ size (suc k) points) on
    absolute_sums = All-weaker (Contains on) (λ p. absolute_sum p ≤ size (suc k) points)
        (λ p c. All-contains (λ q. absolute_sum q ≤ size (suc k) points) points p (point_absolute_sum_lem (suc k) points d) (inside p c)) on
        (All-contains_itself on)

-- the law
pub facets_bounded_lem : FacetsBounded
facets_bounded_lem zero points s f h = absurd (let k = s.coordinates in omega arith)
facets_bounded_lem (suc k) points s f h = by (facet_by_points_lem (suc k) points s f h)
  where
    by : (on : List (List ℤ)) × (length on ≡ suc k) × ((p : List ℤ) → Contains on p → Contains points p) × Vanishes on f
        × ((g : Affine) → length g.normal ≡ suc k → Vanishes on g → IsMultiple g f)
        → IsWithin (suc k) (size (suc k) points) f
    by (on, l, inside, v, det) = fixed_within k points on f s.dimension (size_positive (suc k) points s f h) l inside
        (record { dimension = h.dimension; primitive = h.primitive; vanishes = v; determined = det })

-- a facet of some of the points is within the bound for all
corner_facet_within : (k : ℕ) (points corners : List (List ℤ)) (f : Affine) → HaveDimension (suc k) points → AreSolid (suc k) corners
    → ((c : List ℤ) → Contains corners c → Contains points c) → IsFacet (suc k) corners f → IsWithin (suc k) (size (suc k) points) f
corner_facet_within k points corners f d solid among facet = by (facet_by_points_lem (suc k) corners solid f facet)
  where
    positive : 1 ≤ size (suc k) points
    positive =
        let less = fewer_size (suc k) corners points (λ p i. in_from_contains points (among p (contains_from_in i))) in
        let some = size_positive (suc k) corners solid f facet in omega arith

    by : (on : List (List ℤ)) × (length on ≡ suc k) × ((p : List ℤ) → Contains on p → Contains corners p) × Vanishes on f
        × ((g : Affine) → length g.normal ≡ suc k → Vanishes on g → IsMultiple g f)
        → IsWithin (suc k) (size (suc k) points) f
    by (on, l, inside, v, det) = fixed_within k points on f d positive l (λ p c. among p (inside p c))
        (record { dimension = facet.dimension; primitive = facet.primitive; vanishes = v; determined = det })

-- so the values of such facets at all points fit the width that serves the points' size
pub corner_facets_fit : (n : ℕ) (points corners : List (List ℤ)) (facets : List Affine) (width : Width) → HaveDimension n points → HaveDimension n corners
    → (IsFlat n corners → ⊥) → ((c : List ℤ) → Contains corners c → Contains points c)
    → AreFacetsInAnyOrder n corners facets → Serves n (size n points) width → All (λ f. All (FitsWidth width f) points) facets
corner_facets_fit zero points corners facets width d e s among h serves =
    All-weaker (Contains facets) (λ f. All (FitsWidth width f) points) (λ f c. absurd (no_facet f corners ((h f).0 c))) facets
    (All-contains_itself facets)
corner_facets_fit (suc k) points corners facets width d e s among h serves =
    All-weaker (Contains facets) (λ f. All (FitsWidth width f) points)
    (λ f c. All-weaker (λ p. absolute_sum p ≤ size (suc k) points) (FitsWidth width f)
    (λ p small. serves f p (corner_facet_within k points corners f d (solid_at k corners e s) among ((h f).0 c)) small) points
    (point_absolute_sum_lem (suc k) points d)) facets (All-contains_itself facets)

power_more : (s t j : ℕ) → s ≤ t → (2 * s) ^ j ≤ (2 * t) ^ j
power_more s t j h = pow-le-pow_left (mul-le-mul_left 2 h) j

-- what is within the bound for a size is within that for a larger one
pub within_larger : (n s t : ℕ) (f : Affine) → s ≤ t → IsWithin n s f → IsWithin n t f
within_larger n s t f h within =
    let power = power_more s t (n - 1) h in record {
      normal = λ k d l. let b = within.normal k d l in omega arith;
      constant = (let b = within.constant in let p = mul-le ((2 * s) ^ (n - 1)) s ((2 * t) ^ (n - 1)) t power h in omega arith);
    }

-- the width that serves points serves some of them
pub fewer_serves : (n : ℕ) (points fewer : List (List ℤ)) (width : Width) → ((p : List ℤ) → Contains fewer p → Contains points p)
    → Serves n (size n points) width → Serves n (size n fewer) width
fewer_serves n points fewer width among serves f p within small =
    let less = fewer_size n fewer points (λ q i. in_from_contains points (among q (contains_from_in i))) in
    serves f p (within_larger n (size n fewer) (size n points) f less within) (omega arith)

-- so all facets of a list are within the bound
pub facets_within : (n : ℕ) (points : List (List ℤ)) (facets : List Affine) → HaveDimension n points → (IsFlat n points → ⊥)
    → AreFacets n points facets → All (IsWithin n (size n points)) facets
facets_within zero points facets d s h =
    All-weaker (Contains facets) (IsWithin 0 (size 0 points)) (λ f c. absurd (no_facet f points ((h.members f).0 c))) facets
    (All-contains_itself facets)
facets_within (suc k) points facets d s h = All-weaker (Contains facets) (IsWithin (suc k) (size (suc k) points))
    (λ f c. facets_bounded_lem (suc k) points (solid_at k points d s) f ((h.members f).0 c)) facets (All-contains_itself facets)
