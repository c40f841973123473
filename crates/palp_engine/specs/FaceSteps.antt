-- How the faces of a polytope are found in the room that a session keeps. This project's own.
use Rattle.std.specs.Prelude.{◌≡◌, ◌==◌, ℕ, ◌+◌, ◌≤◌, Bool, List, [], ◌∷◌, length, count_by, IsTrue, ℤ}
use Rattle.lattice_theory.specs.Affine.{Affine}
use Rattle.lattice_core.specs.declared.limits.TheConstants.{MOST_FACETS, MOST_VERTICES}
use Rattle.lattice_core.specs.declared.faults.Refusal.{Refusal}
use Rattle.lattice_core.specs.declared.faults.Refusal.TheVariants.{Flat, Limit}
use Rattle.lattice_core.specs.declared.faults.LimitName.TheVariants.{Faces}
use Rattle.bit_pool.specs.Pools.{PoolState}
use Rattle.face_theory.specs.Faces.{TightRelation}
use Rattle.face_closing.specs.Tables.{HasMoreFaces}
use Rattle.face_closing.specs.declared.limits.TheConstants.{MOST_FACES}
use Rattle.incidence.specs.Incidences.{IncidenceState, IsHeld, Tells}
use Rattle.face_poset.specs.Faces.{FaceState}
use Rattle.face_poset.specs.Counts.{AreFaceCounts}
use Rattle.dual_pair.specs.Polytopes.{PolytopeState}
use Rattle.batyrev.specs.Lines.{IsHodgeLine}
use Rattle.batyrev.specs.declared.line.HodgeLine.{HodgeLine}
use Rattle.batyrev.specs.declared.line.HodgeLine.TheVariants as lines
use Rattle.palp_print.specs.Blocks.{ArePaired}

-- a pool has room for the rows of the most vertices and facets, which are wide enough for them
pub record HasRowRoom (pool : PoolState) : Type 0 where
  pub width : pool.width ≡ MOST_VERTICES
  pub room : MOST_VERTICES + MOST_FACETS ≤ pool.young_generation.reserved

-- the vertices and facets of a polytope, whose points aren't asked
abbrev pub lists_in : List (List ℤ) → List Affine → PolytopeState
lists_in vertices facets = record { vertices = vertices; facets = facets; points = [] }

-- few facets and vertices, whose values can be worked out
pub record CanHaveFaces (facets : List Affine) (vertices : List (List ℤ)) : Type 0 where
  pub paired : ArePaired facets vertices
  pub few_facets : length facets ≤ MOST_FACETS
  pub few_vertices : length vertices ≤ MOST_VERTICES

-- the pool's rows tell the relation, and are as a building asks
pub record IsHeldOf (pool : PoolState) (i : IncidenceState) (R : TightRelation) : Type 0 where
  pub held : IsHeld pool i
  pub tells : Tells pool i R

-- there are too many faces, of which the limit and one are told
abbrev pub IsFaceLimit : TightRelation → Refusal → Type 0
IsFaceLimit R (Flat f) = ⊥
IsFaceLimit R (Limit name told) = (name ≡ Faces) × (told ≡ MOST_FACES + 1) × HasMoreFaces R

-- that stops the work on a polytope where the faces are asked
abbrev pub IsFaceStop : Bool → TightRelation → Refusal → Type 0
IsFaceStop on R cause = IsTrue on × IsFaceLimit R cause

-- there are few faces, and so many of each of the ranks 1 to n
pub record HaveFewFaces (R : TightRelation) (n : ℕ) (counts : List ℕ) : Type 0 where
  pub few : HasMoreFaces R → ⊥
  pub are_counts : AreFaceCounts R n counts

-- Batyrev's numbers where they are asked, and otherwise none
pub record AreNumbersWhere (on : Bool) (p : PolytopeState) (numbers : HodgeLine) : Type 0 where
  pub asked : IsTrue on → IsHodgeLine p numbers
  pub none : (IsTrue on → ⊥) → numbers ≡ lines.None

-- how many faces of a list have a rank, and have the ranks 1 to 6
abbrev pub with_rank : List FaceState → ℕ → ℕ
with_rank faces rank = count_by (λ face. face.rank == rank) faces

abbrev pub of_ranks : List FaceState → List ℕ
of_ranks faces = with_rank faces 1 ∷ with_rank faces 2 ∷ with_rank faces 3 ∷ with_rank faces 4 ∷ with_rank faces 5 ∷ with_rank faces 6 ∷ []
