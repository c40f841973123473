-- The constants of facets are small.
use Rattle.std.specs.Prelude.{ℤ, nat_abs}
use Rattle.std.specs.List.{All, Contains}
use Rattle.std.proofs.Common.{◌≡◌, ℕ, zero, suc, ◌^◌, ◌≤◌, List, length, arith}
use Rattle.std.proofs.lemmas.List.Elements.{All-contains, All-weaker, All-contains_itself}
use Rattle.lattice_theory.specs.Vector.{HaveDimension}
use Rattle.lattice_theory.specs.Affine.{Affine}
use Rattle.lattice_theory.specs.Size.{size, absolute_sum}
use Rattle.lattice_theory.specs.Facet.{IsFacet, AreFacetsInAnyOrder}
use Rattle.facet_theory.specs.Solid.{AreSolid}
use Rattle.facet_theory.proofs.FacetPoints.{facet_by_points_lem}
use Rattle.normal_bounds.specs.Bounds.{IsFixedBy}
use Rattle.normal_bounds.proofs.Products.{functions_fit_lem}
use Rattle.normal_bounds.proofs.Sizes.{point_absolute_sum_lem}
use Rattle.lattice_core.specs.Limits.{size_limit_of, IsSized}
use Rattle.lattice_core.proofs.SizeLimits.{limit_positive}

-- one facet, which some of the points fix
constant_small : (n : ℕ) (points : List (List ℤ)) (f : Affine) → AreSolid n points → n ≤ 6 → IsSized n points → IsFacet n points f
    → nat_abs f.constant ≤ 2 ^ 100
constant_small zero points f solid few small facet = absurd (let h = solid.coordinates in omega arith)
constant_small (suc k) points f solid few small facet =
    let (on, count, inside, vanishes, determined) = facet_by_points_lem (suc k) points solid f facet in
    let heavy = point_absolute_sum_lem (suc k) points solid.dimension in
    let dimensions : HaveDimension (suc k) on = All-weaker (Contains on) (λ p. length p ≡ suc k)
    (λ p c. All-contains (λ q. length q ≡ suc k) points p solid.dimension (inside p c)) on (All-contains_itself on) in
    let light : All (λ p. absolute_sum p ≤ size_limit_of (suc k)) on =
    All-weaker (Contains on) (λ p. absolute_sum p ≤ size_limit_of (suc k))
    (λ p c. let w = All-contains (λ q. absolute_sum q ≤ size (suc k) points) points p heavy (inside p c) in
    omega arith) on (All-contains_itself on) in
    let by : IsFixedBy (suc k) on f = record {
      dimension = facet.dimension;
      primitive = facet.primitive;
      vanishes = vanishes;
      determined = determined;
    } in
    let fits = functions_fit_lem k (size_limit_of (suc k)) on f (limit_positive (suc k) (omega arith) few) (omega arith) count dimensions
    light by in
    omega (arith, fits.1)

-- all of them
pub constants_small : (n : ℕ) (points : List (List ℤ)) (facets : List Affine) → AreSolid n points → n ≤ 6 → IsSized n points
    → AreFacetsInAnyOrder n points facets
    → All (λ f. nat_abs f.constant ≤ 2 ^ 100) facets
constants_small n points facets solid few small are = All-weaker (Contains facets) (λ f. nat_abs f.constant ≤ 2 ^ 100)
    (λ f c. constant_small n points f solid few small ((are f).0 c)) facets (All-contains_itself facets)
