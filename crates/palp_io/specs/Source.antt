-- What a take does to the bytes of a source, to its end and to its faults. This project's own.
use Rattle.std.specs.Prelude.{◌≡◌, ℕ, ◌≤◌, Bool, true, false, List, [], ◌++◌, take, length, Option, OnSome}
use Rattle.std.specs.Io.KnownBytes.{prepend_known, IsAtEnd}
use Rattle.palp_io.specs.Faults.{Rose, last_count}
use Rattle.palp_io.specs.declared.taking.Took.{Took}
use Rattle.palp_io.specs.declared.taking.Took.TheVariants.{Bytes, End, Failed}

-- a source: the bytes still to come, where it tells them, all bytes given so far, where it tells what
-- is left, whether the last take answered `End`, and how many calls failed, a count that stays at
-- its last value once it is reached
pub record SourceState : Type 0 where
  pub left : Option (List ℕ)
  pub taken : List ℕ
  pub ended : Bool
  pub faults : ℕ

-- the last take answered `End`, so nothing is left, as far as the source tells
pub record HasEnded (source : SourceState) : Type 0 where
  pub nothing_left : IsAtEnd source.left
  pub told : source.ended ≡ true

-- the bytes went from the front of what is left to the end of what was taken, where the source
-- tells them; whether it tells them stays
pub record Passes (before now : SourceState) (bytes : List ℕ) : Type 0 where
  pub front : before.left ≡ prepend_known bytes now.left
  pub back : OnSome now.left (now.taken ≡ before.taken ++ bytes)

-- the bytes that a take gave, by its answer and the buffer after it
abbrev pub bytes_of : Took → List ℕ → List ℕ
bytes_of (Bytes n) buf = take n buf
bytes_of End buf = []
bytes_of Failed buf = []

-- there are some bytes and they fit the room, and the source hasn't ended
pub record IsGiven (count room : ℕ) (now : SourceState) : Type 0 where
  pub some : 1 ≤ count
  pub fits : count ≤ room
  pub goes_on : now.ended ≡ false

-- nothing was left, as far as the source tells, and it has ended
pub record IsEnd (before now : SourceState) : Type 0 where
  pub nothing_left : IsAtEnd before.left
  pub ended : now.ended ≡ true

-- the count of faults rose, and the source hasn't ended
pub record IsTakeFault (before now : SourceState) : Type 0 where
  pub rose : Rose before.faults now.faults
  pub goes_on : now.ended ≡ false

-- what an answer means, beside the bytes that passed
abbrev pub TakeMeans : Took → ℕ → SourceState → SourceState → Type 0
TakeMeans (Bytes n) room before now = IsGiven n room now
TakeMeans End room before now = IsEnd before now
TakeMeans Failed room before now = IsTakeFault before now

-- a take: the bytes that its answer tells passed, the answer means what it says, and the count of
-- faults never falls
pub record Takes (answer : Took) (buf : List ℕ) (before now : SourceState) : Type 0 where
  pub passes : Passes before now (bytes_of answer buf)
  pub means : TakeMeans answer (length buf) before now
  pub later : before.faults ≤ now.faults
  pub bounded : now.faults ≤ last_count
