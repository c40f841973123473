-- How the faces of a cone are found in the room that is kept for cones. This project's own.
use Rattle.std.specs.Prelude.{◌≡◌, ℕ, ◌+◌, ◌≤◌, Bool, true, false, length, ℤ, nat_abs}
use Rattle.bit_pool.specs.Pools.{PoolState}
use Rattle.lattice_core.specs.declared.faults.Refusal.{Refusal}
use Rattle.lattice_core.specs.declared.faults.Refusal.TheVariants as refusals
use Rattle.lattice_core.specs.declared.faults.LimitName.TheVariants as limits
use Rattle.face_theory.specs.Pairings.{paired}
use Rattle.face_closing.specs.Tables.{HasMoreFaces}
use Rattle.face_closing.specs.declared.limits.TheConstants.{MOST_FACES}
use Rattle.face_poset.specs.Faces.{TableState}
use Rattle.poset_g.specs.Stored.{GState}
use Rattle.poset_g.specs.Values.{HoldsG, AreSmall, IsFirstLarge}
use Rattle.cayley.specs.PairCones.{ConeState}
use Rattle.nef_numbers.specs.declared.limits.TheConstants.{FEW, MOST_RAYS, MOST_FUNCTIONS}

-- a pool has room for the rows of the most rays and functions, which are wide enough for them
pub record HasRayRoom (pool : PoolState) : Type 0 where
  pub width : pool.width ≡ MOST_RAYS
  pub room : MOST_RAYS + MOST_FUNCTIONS ≤ pool.young_generation.reserved

-- a table was opened for so many members and functions
pub record IsOpenedFor (members functions : ℕ) (table : TableState) : Type 0 where
  pub members_are : table.members ≡ members
  pub functions_are : table.functions ≡ functions

-- what is kept: such a pool, a table for few rays and functions, and one for the most
pub record AreRooms (pool : PoolState) (small large : TableState) : Type 0 where
  pub has_room : HasRayRoom pool
  pub for_few : IsOpenedFor FEW FEW small
  pub for_most : IsOpenedFor MOST_RAYS MOST_FUNCTIONS large

-- the cone isn't larger than what is kept
pub record HasRoomFor (cone : ConeState) : Type 0 where
  pub few_rays : length cone.members ≤ MOST_RAYS
  pub few_functions : length cone.functions ≤ MOST_FUNCTIONS

-- whether it has few rays and functions
abbrev pub HasFew : ConeState → Type 0
HasFew cone = (length cone.members ≤ FEW) × (length cone.functions ≤ FEW)

abbrev pub TellsFew : ConeState → Bool → Type 0
TellsFew cone true = HasFew cone
TellsFew cone false = HasFew cone → ⊥

-- it has too many faces, of which the limit and one are told
abbrev pub IsFacesRefusal : ConeState → Refusal → Type 0
IsFacesRefusal cone (refusals.Flat f) = ⊥
IsFacesRefusal cone (refusals.Limit name told) = (name ≡ limits.ConeFaces) × HasMoreFaces (paired cone.members cone.functions) × (told ≡ MOST_FACES + 1)

-- the polynomials G and G' of the faces, whose coefficients are small
pub record HasSmallG (table : TableState) (values : GState) : Type 0 where
  pub holds : HoldsG table values
  pub small : AreSmall table

-- one of them isn't: the absolute value of the first is told
pub record IsLargeFirst (table : TableState) (told : ℕ) : Type 0 where
  pub from : ℕ
  pub to : ℕ
  pub degree : ℕ
  pub value : ℤ
  pub is_first : IsFirstLarge table from to degree value
  pub told_is : told ≡ nat_abs value

abbrev pub IsLargeRefusal : TableState → Refusal → Type 0
IsLargeRefusal table (refusals.Flat f) = ⊥
IsLargeRefusal table (refusals.Limit name told) = (name ≡ limits.Coef) × IsLargeFirst table told
