-- The vertices and the lattice points of a polytope are small, and so are the values of the facets of a reflexive one there.
use Rattle.std.specs.List.{All}
use Rattle.std.specs.Prelude.{ℤ, nat_abs}
use Rattle.std.proofs.Common.{◌≡◌, ℕ, zero, suc, ◌^◌, ◌<◌, ◌≤◌, List, ◌∷◌, length, sym, ◌∙◌, subst, arith, zero-lt-suc}
use Rattle.lattice_theory.specs.Vector.{entry, HaveDimension}
use Rattle.lattice_theory.specs.Affine.{Affine}
use Rattle.lattice_theory.specs.Size.{reach, size, absolute_sum}
use Rattle.lattice_theory.specs.Hull.{InHull}
use Rattle.lattice_theory.specs.Facet.{IsFacet}
use Rattle.lattice_theory.specs.Points.{IsLatticePoint}
use Rattle.lattice_theory.proofs.Integers.{between_small}
use Rattle.lattice_theory.proofs.Members.{In, Each, more, each_from_all, all_from_each, each_from_in, each_in, contains_from_in}
use Rattle.lattice_theory.proofs.Sizes.{within_reach}
use Rattle.lattice_theory.proofs.Members.{in_from_contains}
use Rattle.facet_theory.proofs.Hull.{hull_in_box_lem}
use Rattle.normal_bounds.proofs.Sizes.{point_absolute_sum_lem}
use Rattle.lattice_core.specs.Dimensions.{dimension_of}
use Rattle.lattice_core.proofs.SizeLimits.{limit_bound}
use Rattle.point_scan.proofs.BoundSteps.{vertices_small}
use Rattle.incidence.specs.Incidences.{HaveValues}
use Rattle.dual_pair.specs.Polytopes.{PolytopeState, IsPolytope}
use Rattle.dual_pair.specs.Pairs.{IsReflexivePolytope}

-- an entry of a point of the hull isn't larger than the largest one of the points
small_entry : (n : ℕ) (points : List (List ℤ)) (x : List ℤ) (i : ℕ) → HaveDimension n points → InHull n points x → i < n
    → nat_abs (entry x i) ≤ reach points i
small_entry n points x i dims inside l =
    let b = hull_in_box_lem n points dims x inside i l in
    between_small (entry b.0 i) (entry b.1 i) (entry x i) (reach points i) b.4 b.5
    (within_reach points i (in_from_contains points b.2)) (within_reach points i (in_from_contains points b.3))

-- so the size stays the same with it
size_with : (n : ℕ) (points : List (List ℤ)) (x : List ℤ) → ((i : ℕ) → i < n → nat_abs (entry x i) ≤ reach points i)
    → size n (x ∷ points) ≤ size n points
size_with zero points x h = omega arith
size_with (suc n) points x h =
    let rest = size_with n points x (λ i l. h i (omega arith)) in
    let here = h n (omega arith) in
    omega arith

-- and it is no larger
light : (n : ℕ) (points : List (List ℤ)) (x : List ℤ) → HaveDimension n points → IsLatticePoint n points x → absolute_sum x ≤ size n points
light n points x dims point =
    let all : HaveDimension n (x ∷ points) = all_from_each {P = λ p. length p ≡ n} (more point.dimension (each_from_all (λ p. length p ≡ n) points dims)) in
    let own : absolute_sum x ≤ size n (x ∷ points) = point_absolute_sum_lem n (x ∷ points) all 0 x (zero-lt-suc _) in
    let same = size_with n points x (λ i l. small_entry n points x i dims point.inside l) in
    omega (arith, own, same)

-- a point of the dimension whose entries sum to little
pub record IsLight (n : ℕ) (x : List ℤ) : Type 0 where
  pub dimension : length x ≡ n
  pub small : absolute_sum x ≤ 2 ^ 33

pub vertices_light : (p : PolytopeState) → IsPolytope p → Each (IsLight (dimension_of p.vertices)) p.vertices
vertices_light p is = each_from_in p.vertices (λ x i. record {
  dimension = each_in (each_from_all (λ v. length v ≡ dimension_of p.vertices) p.vertices is.solid.sized.are_points.one_dimension) i;
  small = each_in (each_from_all (λ v. absolute_sum v ≤ 2 ^ 33) p.vertices (vertices_small p.vertices is.solid)) i;
})

pub points_light : (p : PolytopeState) → IsPolytope p → Each (IsLight (dimension_of p.vertices)) p.points
points_light p is = each_from_in p.points (λ x i.
    let point = (is.points_are.members x).0 (contains_from_in i) in
    let most = limit_bound (dimension_of p.vertices) in
    let within = is.solid.sized.within in
    let h = light (dimension_of p.vertices) p.vertices x is.solid.sized.are_points.one_dimension point in
    record { dimension = point.dimension; small = omega (arith, h, most, within) })

-- the values of the facets of a reflexive polytope at light points can be worked out
pub facet_values : (p : PolytopeState) → IsPolytope p → IsReflexivePolytope p → (points : List (List ℤ))
    → Each (IsLight (dimension_of p.vertices)) points → HaveValues points p.facets
facet_values p is reflexive points are = record {
  dimension = all_from_each {P = λ x. All (λ f. length f.normal ≡ length x) p.facets} (each_from_in points (λ x i.
      all_from_each {P = λ f. length f.normal ≡ length x} (each_from_in p.facets (λ f j.
      (facet f j).dimension ∙ sym (each_in are i).dimension))));
  small = all_from_each {P = λ x. absolute_sum x ≤ 2 ^ 33} (each_from_in points (λ x i. (each_in are i).small));
  constants = all_from_each {P = λ f. nat_abs f.constant ≤ 2 ^ 100} (each_from_in p.facets (λ f j.
      subst (λ (z : ℤ). nat_abs z ≤ 2 ^ 100) (sym (reflexive f (facet f j))) (omega arith)));
}
  where
    facet : (f : Affine) → In f p.facets → IsFacet (dimension_of p.vertices) p.vertices f
    facet f j = (is.facets_are.members f).0 (contains_from_in j)
