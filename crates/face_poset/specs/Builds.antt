-- What building a table of faces does. This project's own.
use Rattle.std.specs.Prelude.{◌≡◌, ℕ, Result, Ok, Err, ◌+◌, ◌<◌, [], ⊤}
use Rattle.bit_pool.specs.Pools.{PoolState, OnRow, IsStale}
use Rattle.bit_pool.specs.declared.faults.RowId.{RowId}
use Rattle.bit_pool.specs.declared.faults.Stale.{Stale}
use Rattle.face_theory.specs.Faces.{TightRelation}
use Rattle.face_closing.specs.Tables.{HasMoreFaces}
use Rattle.incidence.specs.Incidences.{IncidenceState, Tells}
use Rattle.face_poset.specs.Faces.{TableState, IsTableOf}
use Rattle.face_poset.specs.declared.table.BuildFault.{BuildFault}
use Rattle.face_poset.specs.declared.table.BuildFault.TheVariants as faults

-- the id of a row of an incidence: first the members' rows, then the functions'
abbrev pub id_at : IncidenceState → ℕ → RowId
id_at i k = record { epoch = i.epoch; place = i.first + k }

-- the pool has all rows of the incidence
abbrev pub HasAllRows : PoolState → IncidenceState → Type 0
HasAllRows pool i = (k : ℕ) → k < i.members + i.functions → OnRow pool (id_at i k) (λ words. ⊤)

-- it lacks a row of the incidence, of which the first one is told
pub record LacksFirst (pool : PoolState) (i : IncidenceState) (stale : Stale) : Type 0 where
  pub number : ℕ
  pub within : number < i.members + i.functions
  pub before : (k : ℕ) → k < number → OnRow pool (id_at i k) (λ words. ⊤)
  pub lacking : IsStale pool (id_at i number) stale

-- why no table was built
abbrev pub IsBuildFault : PoolState → IncidenceState → BuildFault → Type 0
IsBuildFault pool i (faults.Stale stale) = LacksFirst pool i stale
IsBuildFault pool i (faults.FaceLimit number) = HasAllRows pool i × (number ≡ 4097) × ((R : TightRelation) → Tells pool i R → HasMoreFaces R)

-- what building does: the table has the faces of the relation that the rows tell, or it is empty
abbrev pub IsBuilt : PoolState → IncidenceState → TableState → Result (Unit {0}) BuildFault → Type 0
IsBuilt pool i now (Ok done) = HasAllRows pool i × ((R : TightRelation) → Tells pool i R → IsTableOf R now)
IsBuilt pool i now (Err fault) = IsBuildFault pool i fault × (now.faces ≡ [])
