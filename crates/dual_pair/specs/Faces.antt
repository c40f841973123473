-- The faces of a polytope, as a table is filled with them. This project's own.
use Rattle.std.specs.Prelude.{◌≡◌, Result, Ok, Err, ◌+◌, ◌≤◌, [], length}
use Rattle.face_theory.specs.Faces.{TightRelation}
use Rattle.face_theory.specs.Pairings.{valued}
use Rattle.bit_pool.specs.Pools.{PoolState}
use Rattle.face_closing.specs.Tables.{HasMoreFaces}
use Rattle.face_closing.specs.declared.limits.TheConstants.{MOST_FACES}
use Rattle.incidence.specs.Incidences.{IncidenceState, IsTold, IsToldIn}
use Rattle.face_poset.specs.Faces.{TableState, IsTableOf}
use Rattle.dual_pair.specs.Polytopes.{PolytopeState}
use Rattle.dual_pair.specs.declared.faces.FacesFault.{FacesFault}
use Rattle.dual_pair.specs.declared.faces.FacesFault.TheVariants as faults

-- the vertices are the members, the facets the functions, and a vertex is tight on the facets on which it lies
abbrev pub on_facets : PolytopeState → TightRelation
on_facets p = valued p.vertices p.facets

-- the table has exactly the faces of the polytope, in order; it was opened for as many vertices and facets, or for more
pub record AreFacesOf (p : PolytopeState) (table : TableState) : Type 0 where
  pub members_fit : length p.vertices ≤ table.members
  pub functions_fit : length p.facets ≤ table.functions
  pub faces : IsTableOf (on_facets p) table

-- the rows of an incidence of the vertices and facets were added to the pool, behind those that it had
pub record HasRowsOf (p : PolytopeState) (before now : PoolState) : Type 0 where
  pub incidence : IncidenceState
  pub told : IsToldIn before now (on_facets p) incidence

-- what the call does: the faces are found, or there is no room for the rows, and then none is added, or there are more faces than a table may
-- have. Where they aren't found the table is empty
abbrev pub AreFound : PolytopeState → PoolState → PoolState → TableState → Result (Unit {0}) FacesFault → Type 0
AreFound p before now table (Ok done) = HasRowsOf p before now × AreFacesOf p table
AreFound p before now table (Err (faults.Full full)) = IsTold before now (on_facets p) (Err full) × (table.faces ≡ [])
AreFound p before now table (Err (faults.FaceLimit told)) = HasRowsOf p before now × HasMoreFaces (on_facets p) × (told ≡ MOST_FACES + 1)
    × (table.faces ≡ [])
