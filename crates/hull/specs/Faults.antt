-- What the hull's calls are refused for, and in which order. This project's own.
use Rattle.std.specs.Prelude.{◌≡◌, ℕ, ◌<◌, ◌≤◌, List, length, ℤ}
use Rattle.lattice_theory.specs.Affine.{Affine}
use Rattle.lattice_theory.specs.Size.{size}
use Rattle.lattice_theory.specs.Hull.{AreVertices}
use Rattle.lattice_theory.specs.Facet.{IsFlat, IsFlatFunction, AreFacets}
use Rattle.lattice_core.specs.Limits.{size_limit_of, IsSized}
use Rattle.lattice_core.specs.declared.limits.TheConstants.{MOST_FACETS, MOST_VERTICES}
use Rattle.lattice_core.specs.declared.faults.Refusal.{Refusal}
use Rattle.lattice_core.specs.declared.faults.Refusal.TheVariants as refusals
use Rattle.lattice_core.specs.declared.faults.LimitName.{LimitName}
use Rattle.lattice_core.specs.declared.faults.LimitName.TheVariants as limits

-- the points have more than the most facets, as many as are told
pub record HasManyFacets (n : ℕ) (points : List (List ℤ)) (told : ℕ) : Type 0 where
  pub facets : List Affine
  pub are_facets : AreFacets n points facets
  pub count : told ≡ length facets
  pub many : MOST_FACETS < told

-- the points have more than the most vertices, as many as are told
pub record HasManyVertices (n : ℕ) (points : List (List ℤ)) (told : ℕ) : Type 0 where
  pub vertices : List (List ℤ)
  pub are_vertices : AreVertices n points vertices
  pub count : told ≡ length vertices
  pub many : MOST_VERTICES < told

-- the points aren't flat and have few facets
pub record HaveFewFacets (n : ℕ) (points : List (List ℤ)) : Type 0 where
  pub solid : IsFlat n points → ⊥
  pub facets : List Affine
  pub are_facets : AreFacets n points facets
  pub few : length facets ≤ MOST_FACETS

-- the size is told, and it is above the limit
abbrev pub IsSizeLimit : ℕ → List (List ℤ) → LimitName → ℕ → Type 0
IsSizeLimit n points limits.Size told = (told ≡ size n points) × (size_limit_of n < size n points)
IsSizeLimit n points other told = ⊥

-- the limits on the facets of points: first the size, then the number of facets
abbrev pub IsFacetsLimit : ℕ → List (List ℤ) → LimitName → ℕ → Type 0
IsFacetsLimit n points limits.Size told = IsSizeLimit n points limits.Size told
IsFacetsLimit n points limits.Facets told = IsSized n points × (IsFlat n points → ⊥) × HasManyFacets n points told
IsFacetsLimit n points other told = ⊥

-- the limit on the number of vertices
abbrev pub IsVerticesLimit : ℕ → List (List ℤ) → LimitName → ℕ → Type 0
IsVerticesLimit n points limits.Vertices told = HasManyVertices n points told
IsVerticesLimit n points other told = ⊥

-- the facets of points of dimension n are refused by their size, then with the flat function, then by their number
abbrev pub IsFacetsRefusal : ℕ → List (List ℤ) → Refusal → Type 0
IsFacetsRefusal n points (refusals.Flat f) = IsSized n points × IsFlatFunction n points f
IsFacetsRefusal n points (refusals.Limit name told) = IsFacetsLimit n points name told

-- the vertices are refused by their number alone
abbrev pub IsVerticesRefusal : ℕ → List (List ℤ) → Refusal → Type 0
IsVerticesRefusal n points (refusals.Flat f) = ⊥
IsVerticesRefusal n points (refusals.Limit name told) = IsVerticesLimit n points name told

-- points are refused by their size alone
abbrev pub IsSizeRefusal : ℕ → List (List ℤ) → Refusal → Type 0
IsSizeRefusal n points (refusals.Flat f) = ⊥
IsSizeRefusal n points (refusals.Limit name told) = IsSizeLimit n points name told

-- a builder's first points are refused by their size, then with the flat function
abbrev pub IsStartRefusal : ℕ → List (List ℤ) → Refusal → Type 0
IsStartRefusal n points (refusals.Flat f) = IsSized n points × IsFlatFunction n points f
IsStartRefusal n points (refusals.Limit name told) = IsSizeLimit n points name told

-- the limits on facets and vertices: the size, the number of facets, and then that of vertices
abbrev pub IsPolytopeLimit : ℕ → List (List ℤ) → LimitName → ℕ → Type 0
IsPolytopeLimit n points limits.Vertices told = IsSized n points × HaveFewFacets n points × HasManyVertices n points told
IsPolytopeLimit n points name told = IsFacetsLimit n points name told

-- facets and vertices of points are refused by the points' size, then with the flat function, then by the number of facets, and then by that of
-- vertices
abbrev pub IsPolytopeRefusal : ℕ → List (List ℤ) → Refusal → Type 0
IsPolytopeRefusal n points (refusals.Flat f) = IsSized n points × IsFlatFunction n points f
IsPolytopeRefusal n points (refusals.Limit name told) = IsPolytopeLimit n points name told
