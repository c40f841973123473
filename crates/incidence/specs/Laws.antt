-- The laws of incidences: what a pool keeps of them.
use Rattle.std.specs.Prelude.{ℕ, ◌↔◌, ◌<◌, ◌≤◌, ⊤, IsTrue}
use Rattle.face_theory.specs.Faces.{TightRelation}
use Rattle.bit_pool.specs.Pools.{PoolState, IsPool, OnRow}
use Rattle.bit_pool.specs.Changes.{IsLater}
use Rattle.incidence.specs.Incidences.{IncidenceState, Tells, Agree, IsHeld, IsPast, IsToldIn, told, member_id, function_id}

-- rows that tell a relation agree
abbrev pub ToldRowsAgree : Type 0
ToldRowsAgree = (pool : PoolState) (i : IncidenceState) (R : TightRelation) → Tells pool i R → Agree pool i

-- the pool in which an incidence was made is as the calls ask
abbrev pub MadeIsHeld : Type 0
MadeIsHeld = (before now : PoolState) (i : IncidenceState) (R : TightRelation) → R.members ≤ before.width → R.functions ≤ before.width
    → IsToldIn before now R i → IsHeld now i × IsPast now i

-- and stays so, whatever is called on it
abbrev pub HeldStays : Type 0
HeldStays = (before now : PoolState) (i : IncidenceState) → IsPool before → IsLater before now → IsHeld before i → IsPast before i
    → IsHeld now i × IsPast now i

-- where such a pool has all rows of the incidence, they tell the relation that the members' rows tell, and no other
abbrev pub RowsTell : Type 0
RowsTell = (pool : PoolState) (i : IncidenceState) → IsHeld pool i → ((m : ℕ) → m < i.members → OnRow pool (member_id i m) (λ words. ⊤))
    → ((f : ℕ) → f < i.functions → OnRow pool (function_id i f) (λ words. ⊤)) → Tells pool i (told pool i)

abbrev pub ToldIsSingle : Type 0
ToldIsSingle = (pool : PoolState) (i : IncidenceState) (R : TightRelation) → Tells pool i R → (m f : ℕ) → m < i.members → f < i.functions
    → IsTrue ((told pool i).tight m f) ↔ IsTrue (R.tight m f)
