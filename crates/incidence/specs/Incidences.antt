-- Relations "tight" that the rows of a pool tell. This project's own.
use Rattle.std.specs.Prelude.{◌≡◌, ◌↔◌, ℕ, Result, Ok, Err, Option, None, Some, ◌+◌, ◌*◌, ◌^◌, ◌<◌, ◌≤◌, ◌==◌, Bool, false, List, [], ◌++◌, length, slice_index_or, IsTrue, nat_abs, ℤ}
use Rattle.std.specs.List.{All}
use Rattle.lattice_theory.specs.Affine.{Affine}
use Rattle.lattice_theory.specs.Size.{absolute_sum}
use Rattle.face_theory.specs.Faces.{TightRelation}
use Rattle.bit_pool.specs.Bits.{HasBit, IsRow, bit_of}
use Rattle.bit_pool.specs.Pools.{PoolState, OnRow, row_of}
use Rattle.bit_pool.specs.Changes.{AreGiven}
use Rattle.bit_pool.specs.declared.faults.RowId.{RowId}
use Rattle.bit_pool.specs.declared.faults.Full.{Full}

-- how many members and functions there are, and where their rows stand: first the members' and then the functions', from a place on
pub record IncidenceState : Type 0 where
  pub members : ℕ
  pub functions : ℕ
  pub epoch : ℕ
  pub first : ℕ

-- the ids of the rows
abbrev pub member_id : IncidenceState → ℕ → RowId
member_id i m = record { epoch = i.epoch; place = i.first + m }

abbrev pub function_id : IncidenceState → ℕ → RowId
function_id i f = record { epoch = i.epoch; place = i.first + (i.members + f) }

-- the set that words tell has exactly the numbers below n that pass a test
abbrev pub HasExactly : ℕ → (ℕ → Bool) → List ℕ → Type 0
HasExactly n test words = (k : ℕ) → HasBit words k ↔ ((k < n) × IsTrue (test k))

-- the rows tell the relation: a member's row has the functions on which it is tight, and a function's row the members that are
pub record Tells (pool : PoolState) (i : IncidenceState) (R : TightRelation) : Type 0 where
  pub members : i.members ≡ R.members
  pub functions : i.functions ≡ R.functions
  pub member_rows : (m : ℕ) → m < R.members → OnRow pool (member_id i m) (HasExactly R.functions (λ f. R.tight m f))
  pub function_rows : (f : ℕ) → f < R.functions → OnRow pool (function_id i f) (HasExactly R.members (λ m. R.tight m f))

-- of the rows of the incidence, those that the pool has agree: the row of a function has a member exactly where that member's row has the
-- function
abbrev pub Agree : PoolState → IncidenceState → Type 0
Agree pool i = (m f : ℕ) (row column : List ℕ) → m < i.members → f < i.functions → row_of pool (member_id i m) ≡ Some row
    → row_of pool (function_id i f) ≡ Some column → HasBit column m ↔ HasBit row f

-- what the calls ask of a pool: it is wide enough, and of those rows of the incidence that it has, those of members have functions alone,
-- those of functions have members alone, and both agree
pub record IsHeld (pool : PoolState) (i : IncidenceState) : Type 0 where
  pub members_fit : i.members ≤ pool.width
  pub functions_fit : i.functions ≤ pool.width
  pub member_rows : (m k : ℕ) (row : List ℕ) → m < i.members → row_of pool (member_id i m) ≡ Some row → HasBit row k → k < i.functions
  pub function_rows : (f k : ℕ) (row : List ℕ) → f < i.functions → row_of pool (function_id i f) ≡ Some row → HasBit row k → k < i.members
  pub agree : Agree pool i

-- all rows of the incidence were pushed
abbrev pub IsPast : PoolState → IncidenceState → Type 0
IsPast pool i = AreGiven pool i.epoch (i.first + (i.members + i.functions))

-- the words of the row that an id names, and no words where it names none
abbrev pub words_or_none : Option (List ℕ) → List ℕ
words_or_none None = []
words_or_none (Some words) = words

-- the relation that the members' rows tell
abbrev pub told : PoolState → IncidenceState → TightRelation
told pool i = record {
  members = i.members;
  functions = i.functions;
  tight = λ m f. bit_of (words_or_none (row_of pool (member_id i m))) f == 1;
}

-- the pool with some more rows in its young generation
abbrev pub with_rows : PoolState → List (List ℕ) → PoolState
with_rows pool added = record pool { young_generation = record pool.young_generation { rows = pool.young_generation.rows ++ added } }

-- so many rows were added, which are sets of numbers below the width
pub record HasGained (before now : PoolState) (count : ℕ) : Type 0 where
  pub added : List (List ℕ)
  pub many : length added ≡ count
  pub are_rows : All (IsRow before.width) added
  pub now_is : now ≡ with_rows before added

-- making an incidence of a relation adds its rows, and they tell the relation
pub record IsToldIn (before now : PoolState) (R : TightRelation) (i : IncidenceState) : Type 0 where
  pub room : length before.young_generation.rows + (R.members + R.functions) ≤ before.young_generation.reserved
  pub epoch : i.epoch ≡ before.young_generation.epoch
  pub first : i.first ≡ length before.young_generation.rows
  pub gained : HasGained before now (R.members + R.functions)
  pub tells : Tells now i R

-- what making an incidence does: it is made exactly where there is room for a row of each member and function
abbrev pub IsTold : PoolState → PoolState → TightRelation → Result IncidenceState Full → Type 0
IsTold before now R (Ok i) = IsToldIn before now R i
IsTold before now R (Err full) = (before.young_generation.reserved < length before.young_generation.rows + (R.members + R.functions))
    × (full.reserved ≡ before.young_generation.reserved) × (now ≡ before)

-- the relation of a table, member by member
abbrev pub tabled : ℕ → ℕ → List Bool → TightRelation
tabled members functions tight = record {
  members = members;
  functions = functions;
  tight = λ m f. slice_index_or tight (m * functions + f) false;
}

-- the values of the functions at the points can be worked out
pub record HaveValues (points : List (List ℤ)) (functions : List Affine) : Type 0 where
  pub dimension : All (λ p. All (λ f. length f.normal ≡ length p) functions) points
  pub small : All (λ p. absolute_sum p ≤ 2 ^ 33) points
  pub constants : All (λ f. nat_abs f.constant ≤ 2 ^ 100) functions
