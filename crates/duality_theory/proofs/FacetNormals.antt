-- The normals of the facets: each is that of a facet; no direction is nonnegative on all of them, and they aren't flat.
use Rattle.std.proofs.Common.{◌≡◌, ℕ, List, length, ℤ, pos, negsuc, ◌+ℤ◌, ◌*ℤ◌, ◌≤ℤ◌, ◌<ℤ◌, ◌⊎◌, inl, inr, sym, ◌∙◌, subst, ap, arith}
use Rattle.lattice_theory.specs.Vector.{entry, dot, scaled, HaveDimension}
use Rattle.lattice_theory.specs.Affine.{Affine, value}
use Rattle.lattice_theory.specs.Facet.{IsFacet, IsFlat}
use Rattle.lattice_theory.proofs.Integers.{linear, minus_one-*ℤ, positive_or_not}
use Rattle.lattice_theory.proofs.Members.{In, all_from_each, each_from_all, each_from_in, each_in, in_from_contains, contains_from_in}
use Rattle.lattice_theory.proofs.Sublists.{in_map, IsImage, from_map}
use Rattle.lattice_theory.proofs.Vectors.{dot_comm, dot-scaled_right, entry-scaled, length-scaled, entries_from_zero}
use Rattle.facet_theory.specs.Solid.{AreSolid}
use Rattle.facet_theory.proofs.Hull.{facets_bound_lem}
use Rattle.duality_theory.specs.Reflexive.{AreFacetNormals}
use Rattle.duality_theory.specs.Laws.{NormalsAreSolid, NormalsSurround}

-- the facet of a normal
pub record NormalOf (n : ℕ) (points : List (List ℤ)) (q : List ℤ) : Type 0 where
  pub function : Affine
  pub facet : IsFacet n points function
  pub is : q ≡ function.normal

module _ (n : ℕ) (points normals : List (List ℤ)) (has : AreFacetNormals n points normals) where
  -- each normal is that of a facet
  pub normal_of : (q : List ℤ) → In q normals → NormalOf n points q
  normal_of q i = by (from_map (λ (f : Affine). f.normal) has.facets (subst (λ (qs : List (List ℤ)). In q qs) has.same i))
    where
      by : IsImage (λ (f : Affine). f.normal) has.facets q → NormalOf n points q
      by s = record { function = s.source; facet = (has.are_facets s.source).0 (contains_from_in s.member); is = s.is }

  -- and each facet's is among them
  pub normal_in : (f : Affine) → IsFacet n points f → In f.normal normals
  normal_in f facet = subst (λ (qs : List (List ℤ)). In f.normal qs) (sym has.same)
      (in_map (λ (g : Affine). g.normal) (in_from_contains has.facets ((has.are_facets f).1 facet)))

  -- they have the points' dimension
  pub normals_dimension : HaveDimension n normals
  normals_dimension = all_from_each (each_from_in normals (λ q i. by q (normal_of q i)))
    where
      by : (q : List ℤ) → NormalOf n points q → length q ≡ n
      by q s = ap length s.is ∙ s.facet.dimension

-- the law on directions
pub normals_surround_lem : NormalsSurround
normals_surround_lem n points normals solid has y l h = facets_bound_lem n points solid y l
    (λ f facet. each_in (each_from_all (λ q. pos 0 ≤ℤ dot q y) normals h) (normal_in n points normals has f facet))

-- a nonconstant function would be 0 on flat normals; its direction or the opposite one is nonnegative on them
module _ (n : ℕ) (points normals : List (List ℤ)) (solid : AreSolid n points) (has : AreFacetNormals n points normals)
    (flat : IsFlat n normals) where
  zero_at : (q : List ℤ) → In q normals → value flat.function q ≡ pos 0
  zero_at q i = each_in (each_from_all (λ p. value flat.function p ≡ pos 0) normals flat.vanishes) i

  at_least : (a b c : ℤ) → a ≡ b → c ≤ℤ pos 0 → b +ℤ c ≡ pos 0 → pos 0 ≤ℤ a
  at_least a b c e h z = omega (arith, linear)

  at_most : (a b c d : ℤ) → d ≡ negsuc 0 *ℤ a → a ≡ b → pos 0 <ℤ c → b +ℤ c ≡ pos 0 → pos 0 ≤ℤ d
  at_most a b c d e e' h z = let k = rw (minus_one-*ℤ a) at e in omega (arith, linear)

  opposite_zero : (a b : ℤ) → b ≡ negsuc 0 *ℤ a → b ≡ pos 0 → a ≡ pos 0
  opposite_zero a b e z = let k = rw (minus_one-*ℤ a) at e in omega (arith, linear)

  none : ⊥
  none = by (positive_or_not flat.function.constant)
    where
      x : List ℤ
      x = flat.function.normal

      by : (pos 0 <ℤ flat.function.constant) ⊎ (flat.function.constant ≤ℤ pos 0) → ⊥
      by (inr h) = flat.nonconstant.1 (entries_from_zero x (normals_surround_lem n points normals solid has x flat.dimension
          (all_from_each (each_from_in normals (λ q i. at_least (dot q x) (dot x q) flat.function.constant (dot_comm q x) h (zero_at q i)))))
          flat.nonconstant.0)
      by (inl h) = flat.nonconstant.1 (opposite_zero (entry x flat.nonconstant.0) (entry (scaled (negsuc 0) x) flat.nonconstant.0)
          (entry-scaled (negsuc 0) x flat.nonconstant.0)
          (entries_from_zero (scaled (negsuc 0) x) (normals_surround_lem n points normals solid has (scaled (negsuc 0) x)
          (length-scaled (negsuc 0) x ∙ flat.dimension)
          (all_from_each (each_from_in normals (λ q i. at_most (dot q x) (dot x q) flat.function.constant (dot q (scaled (negsuc 0) x))
          (dot-scaled_right (negsuc 0) q x) (dot_comm q x) h (zero_at q i))))) flat.nonconstant.0))

-- the law on flatness
pub normals_are_solid_lem : NormalsAreSolid
normals_are_solid_lem n points normals solid has = record {
  coordinates = solid.coordinates;
  dimension = normals_dimension n points normals has;
  solid = none n points normals solid has;
}
