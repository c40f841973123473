-- What a pair's lists have for its cones.
use Rattle.std.proofs.Common.{◌≡◌, ℕ, ◌/◌, ◌%◌, ◌^◌, ◌<◌, ◌≤◌, List, length, ℤ, sym, ap, ◌∙◌, subst, arith, slice_index_or}
use Rattle.std.specs.List.{All, Contains}
use Rattle.std.proofs.lemmas.List.Elements.{All-weaker, All-contains, Contains-get_or}
use Rattle.std.proofs.lemmas.Nat.{div-add-mod'}
use Rattle.std.proofs.Math.Nat.{mod-lt, div-lt_iff_lt-mul}
use Rattle.lattice_theory.specs.Vector.{HaveDimension}
use Rattle.lattice_theory.specs.Affine.{Affine}
use Rattle.lattice_theory.specs.Size.{absolute_sum, size}
use Rattle.lattice_theory.specs.Facet.{IsFacet}
use Rattle.lattice_theory.proofs.Members.{all_from_each, each_from_in, in_from_contains, contains_from_in}
use Rattle.lattice_theory.proofs.Sublists.{in_map}
use Rattle.normal_bounds.proofs.Sizes.{point_absolute_sum_lem}
use Rattle.duality_theory.specs.Reflexive.{with_one}
use Rattle.nef_theory.specs.Nef.{part_at, IsGrowthList}
use Rattle.nef_theory.specs.Places.{ArePartPlaces}
use Rattle.lattice_core.specs.Dimensions.{dimension_of}
use Rattle.lattice_core.proofs.SizeLimits.{limit_bound}
use Rattle.dual_pair.specs.Polytopes.{PolytopeState, IsPolytope}
use Rattle.dual_pair.specs.Pairs.{PairState, IsPair}
use Rattle.dual_pair.proofs.DualSides.{dual_dimension}

-- the vertices of a polytope have small sums
small_vertices : (p : PolytopeState) → IsPolytope p → All (λ v. absolute_sum v ≤ 2 ^ 60) p.vertices
small_vertices p is = All-weaker (λ v. absolute_sum v ≤ size (dimension_of p.vertices) p.vertices) (λ v. absolute_sum v ≤ 2 ^ 60)
    (λ v h. let a = is.solid.sized.within in let b = limit_bound (dimension_of p.vertices) in omega (arith, a, b, h)) p.vertices
    (point_absolute_sum_lem (dimension_of p.vertices) p.vertices is.solid.sized.are_points.one_dimension)

module _ (pair : PairState) (is : IsPair pair) where
  pub same_dimension : dimension_of pair.n.vertices ≡ dimension_of pair.m.vertices
  same_dimension = ap dimension_of is.dual.vertices_are ∙ dual_dimension pair.m is.polytope is.reflexive

  pub normals_dimension : HaveDimension (dimension_of pair.m.vertices) pair.n.vertices
  normals_dimension = subst (λ (k : ℕ). HaveDimension k pair.n.vertices) same_dimension is.dual.polytope.solid.sized.are_points.one_dimension

  pub small_normals : All (λ v. absolute_sum v ≤ 2 ^ 60) pair.n.vertices
  small_normals = small_vertices pair.n is.dual.polytope

  pub points_dimension : HaveDimension (dimension_of pair.m.vertices) pair.m.points
  points_dimension = all_from_each {P = λ p. length p ≡ dimension_of pair.m.vertices} (each_from_in pair.m.points
      (λ p i. ((is.polytope.points_are.members p).0 (contains_from_in i)).dimension))

  pub facet_of : (m : List ℤ) → Contains pair.m.vertices m → IsFacet (dimension_of pair.m.vertices) pair.n.vertices (with_one m)
  facet_of m c = subst (λ (k : ℕ). IsFacet k pair.n.vertices (with_one m)) same_dimension
      ((is.dual.polytope.facets_are.members (with_one m)).0 (subst (λ (fs : List Affine). Contains fs (with_one m)) (sym is.dual.facets_are)
      (contains_from_in (in_map with_one (in_from_contains pair.m.vertices c)))))

-- each part number of a growth list is below the number of parts, so there is a part
pub below_parts : (r : ℕ) (parts : List ℕ) → IsGrowthList r parts → (e : ℕ) → e < length parts → part_at parts e < r
below_parts r parts g e l = All-contains (λ p. p < r) parts (part_at parts e) g.below (Contains-get_or parts e 0 l)

pub some_part : (r : ℕ) (parts : List ℕ) → IsGrowthList r parts → 0 < length parts → 0 < r
some_part r parts g l = let b = below_parts r parts g 0 l in omega arith

-- the places are places of points
pub places_within : (n : ℕ) (vertices normals points : List (List ℤ)) (r : ℕ) (part_of places : List ℕ) → 0 < r
    → ArePartPlaces n vertices normals points r part_of places → (k : ℕ) → k < length places → slice_index_or places k 0 < length points
places_within n vertices normals points r part_of places some are k l =
    let row : k / r < length vertices = (div-lt_iff_lt-mul {k = r} {x = k} {y = length vertices} some).1 (let c = are.count in omega arith) in
    subst (λ (q : ℕ). slice_index_or places q 0 < length points) (div-add-mod' k r) ((are.are (k / r) (k % r) row (mod-lt k some)).within)
