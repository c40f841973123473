-- Reflexive polytopes with their duals, and why a dual is refused (alg-geom/9310003: reflexive polytopes and their duals; the limits are this
-- project's own).
use Rattle.std.specs.Prelude.{◌≡◌, ℕ, ◌+◌, ◌<◌, List, length, ℤ}
use Rattle.lattice_theory.specs.Size.{size}
use Rattle.duality_theory.specs.Reflexive.{IsReflexive, normals_of}
use Rattle.duality_theory.specs.Lists.{AreDualPoints, with_ones}
use Rattle.lattice_core.specs.Dimensions.{dimension_of}
use Rattle.lattice_core.specs.Limits.{size_limit_of, IsSized}
use Rattle.lattice_core.specs.declared.limits.TheConstants.{MOST_POINTS}
use Rattle.lattice_core.specs.declared.faults.Refusal.{Refusal}
use Rattle.lattice_core.specs.declared.faults.Refusal.TheVariants as refusals
use Rattle.lattice_core.specs.declared.faults.LimitName.{LimitName}
use Rattle.lattice_core.specs.declared.faults.LimitName.TheVariants as limits
use Rattle.dual_pair.specs.Polytopes.{PolytopeState, IsPolytope}

-- the polytope p is reflexive
abbrev pub IsReflexivePolytope : PolytopeState → Type 0
IsReflexivePolytope p = IsReflexive (dimension_of p.vertices) p.vertices

-- q is the dual of p: its vertices are the normals of p's facets, its facets the functions (v, 1) of p's vertices v, and its points the integer
-- vectors that pair to at least -1 with each vertex of p
pub record IsDualOf (p q : PolytopeState) : Type 0 where
  pub polytope : IsPolytope q
  pub vertices_are : q.vertices ≡ normals_of p.facets
  pub facets_are : q.facets ≡ with_ones p.vertices
  pub points_are : AreDualPoints (dimension_of p.vertices) p.vertices q.points

-- a polytope and another one
pub record PairState : Type 0 where
  pub m : PolytopeState
  pub n : PolytopeState

-- what holds of every pair: the first is reflexive, and the second is its dual
pub record IsPair (pair : PairState) : Type 0 where
  pub polytope : IsPolytope pair.m
  pub reflexive : IsReflexivePolytope pair.m
  pub dual : IsDualOf pair.m pair.n

-- the sides exchanged
abbrev pub exchanged : PairState → PairState
exchanged pair = record { m = pair.n; n = pair.m }

-- the dual of p has more than the most points
pub record HasManyDualPoints (p : PolytopeState) : Type 0 where
  pub sized : IsSized (dimension_of p.vertices) (normals_of p.facets)
  pub points : List (List ℤ)
  pub are_points : AreDualPoints (dimension_of p.vertices) p.vertices points
  pub many : MOST_POINTS < length points

-- the limits on the dual, in order: the size of its vertices, which is told, and its points, of which the limit and one are told
abbrev pub IsDualLimit : PolytopeState → LimitName → ℕ → Type 0
IsDualLimit p limits.DualSize told = (told ≡ size (dimension_of p.vertices) (normals_of p.facets))
    × (size_limit_of (dimension_of p.vertices) < size (dimension_of p.vertices) (normals_of p.facets))
IsDualLimit p limits.DualPoints told = HasManyDualPoints p × (told ≡ MOST_POINTS + 1)
IsDualLimit p other told = ⊥

-- why a polytope has no pair: it is reflexive, and its dual exceeds one of these limits
abbrev pub HasNoDual : PolytopeState → Refusal → Type 0
HasNoDual p (refusals.Flat f) = ⊥
HasNoDual p (refusals.Limit name told) = IsReflexivePolytope p × IsDualLimit p name told
