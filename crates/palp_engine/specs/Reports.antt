-- Points that are refused, and points that aren't. The limits are this project's own.
use Rattle.std.specs.Prelude.{◌≡◌, ℕ, ◌+◌, ◌<◌, ◌≤◌, List, length, ℤ}
use Rattle.lattice_theory.specs.Affine.{Affine}
use Rattle.lattice_theory.specs.Hull.{AreVertices}
use Rattle.lattice_theory.specs.Facet.{IsFlat, IsFlatFunction}
use Rattle.lattice_theory.specs.Points.{AreLatticePoints}
use Rattle.lattice_core.specs.declared.limits.TheConstants.{MOST_VERTICES, MOST_POINTS}
use Rattle.lattice_core.specs.declared.faults.Refusal.{Refusal}
use Rattle.lattice_core.specs.declared.faults.Refusal.TheVariants.{Flat, Limit}
use Rattle.lattice_core.specs.declared.faults.LimitName.TheVariants.{Facets, Vertices, Points}
use Rattle.hull.specs.Faults.{HaveFewFacets, HasManyFacets, HasManyVertices}

-- the points aren't flat, and have few facets and few vertices
pub record HaveFewVertices (n : ℕ) (points : List (List ℤ)) : Type 0 where
  pub faces : HaveFewFacets n points
  pub vertices : List (List ℤ)
  pub are_vertices : AreVertices n points vertices
  pub few : length vertices ≤ MOST_VERTICES

-- and their hull has few lattice points: so the points aren't refused
pub record HaveFewPoints (n : ℕ) (points : List (List ℤ)) : Type 0 where
  pub polytope : HaveFewVertices n points
  pub lattice : List (List ℤ)
  pub are_lattice_points : AreLatticePoints n points lattice
  pub few : length lattice ≤ MOST_POINTS

-- the hull has too many lattice points, and the number told is one more than the limit
pub record HaveManyPoints (n : ℕ) (points : List (List ℤ)) (told : ℕ) : Type 0 where
  pub polytope : HaveFewVertices n points
  pub lattice : List (List ℤ)
  pub are_lattice_points : AreLatticePoints n points lattice
  pub many : MOST_POINTS < length lattice
  pub told_is : told ≡ MOST_POINTS + 1

-- why points within the size limit are refused: they are flat, or have too many facets, vertices or lattice points. Each is asked where
-- those before it hold.
pub data IsRefused (n : ℕ) (points : List (List ℤ)) : Refusal → Type 0 where
  flat : {f : Affine} → IsFlatFunction n points f → IsRefused n points (Flat f)
  many_facets : {told : ℕ} → (IsFlat n points → ⊥) → HasManyFacets n points told → IsRefused n points (Limit Facets told)
  many_vertices : {told : ℕ} → HaveFewFacets n points → HasManyVertices n points told → IsRefused n points (Limit Vertices told)
  many_points : {told : ℕ} → HaveManyPoints n points told → IsRefused n points (Limit Points told)
