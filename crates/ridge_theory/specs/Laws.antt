-- What becomes of the facets with one more point, as statements about points of dimension n that aren't flat.
use Rattle.std.specs.Prelude.{◌≡◌, ◌↔◌, ◌⊎◌, ℕ, List, length, ℤ, pos, ◌≤ℤ◌, ◌<ℤ◌}
use Rattle.std.specs.List.{Contains}
use Rattle.lattice_theory.specs.Vector.{HaveDimension}
use Rattle.lattice_theory.specs.Affine.{Affine, value}
use Rattle.lattice_theory.specs.Combinations.{IsCombinationAt}
use Rattle.lattice_theory.specs.Facet.{IsFacet}
use Rattle.facet_theory.specs.Solid.{AreSolid}
use Rattle.ridge_theory.specs.Ridges.{VanishesWithBoth, IsRidge, HasOneMore, IsNewFacet}

-- points among which there are some that aren't flat aren't flat
abbrev pub MoreAreSolid : Type 0
MoreAreSolid = (n : ℕ) (points more : List (List ℤ)) → AreSolid n points → HaveDimension n more
    → ((x : List ℤ) → Contains points x → Contains more x) → AreSolid n more

-- a facet that isn't negative at the new point stays one
abbrev pub FacetsStay : Type 0
FacetsStay = (n : ℕ) (points : List (List ℤ)) (p : List ℤ) (more : List (List ℤ)) → AreSolid n points → HasOneMore points p more
    → (f : Affine) → IsFacet n points f → pos 0 ≤ℤ value f p → IsFacet n more f

-- a facet that is positive at a point and one that is negative there have a combination at it
abbrev pub OppositeFacetsCombine : Type 0
OppositeFacetsCombine = (n : ℕ) (points : List (List ℤ)) (p : List ℤ) → AreSolid n points → length p ≡ n
    → (f g : Affine) → IsFacet n points f → IsFacet n points g → pos 0 <ℤ value f p → value g p <ℤ pos 0
    → (h : Affine) × IsCombinationAt f g p h

-- which is a facet exactly where the two meet in a ridge
abbrev pub RidgesGiveFacets : Type 0
RidgesGiveFacets = (n : ℕ) (points : List (List ℤ)) (p : List ℤ) (more : List (List ℤ)) → AreSolid n points → length p ≡ n
    → HasOneMore points p more
    → (f g h : Affine) → IsFacet n points f → IsFacet n points g → pos 0 <ℤ value f p → value g p <ℤ pos 0 → IsCombinationAt f g p h
    → IsFacet n more h ↔ IsRidge n points f g

-- the facets with the new point are those that aren't negative at it and these combinations
abbrev pub FacetsOfOneMore : Type 0
FacetsOfOneMore = (n : ℕ) (points : List (List ℤ)) (p : List ℤ) (more : List (List ℤ)) → AreSolid n points → length p ≡ n
    → HasOneMore points p more
    → (h : Affine) → IsFacet n more h
    ↔ ((IsFacet n points h × (pos 0 ≤ℤ value h p)) ⊎ ((f : Affine) × (g : Affine) × IsNewFacet n points p f g h))

-- two facets meet in a ridge exactly where no third facet vanishes at each of the points at which both vanish
abbrev pub RidgesByFacets : Type 0
RidgesByFacets = (n : ℕ) (points : List (List ℤ)) → AreSolid n points → (f g : Affine) → IsFacet n points f → IsFacet n points g
    → IsRidge n points f g ↔ ((k : Affine) → IsFacet n points k → VanishesWithBoth points f g k → (k ≡ f) ⊎ (k ≡ g))

-- no combination is a facet already, and two combinations that are equal are of the same facets
abbrev pub NewFacetsAreNew : Type 0
NewFacetsAreNew = (n : ℕ) (points : List (List ℤ)) (p : List ℤ) → AreSolid n points → length p ≡ n
    → (f g h : Affine) → IsNewFacet n points p f g h → IsFacet n points h → ⊥

abbrev pub NewFacetsDiffer : Type 0
NewFacetsDiffer = (n : ℕ) (points : List (List ℤ)) (p : List ℤ) → AreSolid n points → length p ≡ n
    → (f g f' g' h : Affine) → IsNewFacet n points p f g h → IsNewFacet n points p f' g' h → (f ≡ f') × (g ≡ g')

-- where no facet is negative at any of more points, the facets are those of all of these
abbrev pub FacetsOfAll : Type 0
FacetsOfAll = (n : ℕ) (points more : List (List ℤ)) → AreSolid n points → ((x : List ℤ) → Contains points x → Contains more x)
    → ((f : Affine) → IsFacet n points f → (x : List ℤ) → Contains more x → pos 0 ≤ℤ value f x)
    → (f : Affine) → IsFacet n points f ↔ IsFacet n more f
