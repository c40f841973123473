-- What contracts see of a source or a sink in memory, and exactly what its calls do.
-- This project's own.
use Rattle.std.specs.Prelude.{◌≡◌, ℕ, ◌<◌, ◌≤◌, min, Bool, List, [], ◌++◌, length, Contains, ◌-◌, ◌⊎◌, Some}
use Rattle.palp_io.specs.Faults.{count_up}
use Rattle.palp_io.specs.Source.{SourceState}
use Rattle.palp_io.specs.Sink.{SinkState}
use Rattle.palp_io.specs.declared.taking.Took.{Took}
use Rattle.palp_io.specs.declared.taking.Took.TheVariants.{Bytes, End, Failed}
use Rattle.palp_io.specs.declared.giving.Gave.{Gave}
use Rattle.palp_io.specs.declared.giving.Gave.TheVariants.{All, Failed as GiveFailed}

-- a source in memory: the most bytes that a call gives, how many calls there were, and the
-- numbers of the calls that fail
pub record SourceInMemory : Type 0 where
  pub left : List ℕ
  pub taken : List ℕ
  pub ended : Bool
  pub faults : ℕ
  pub chunk : ℕ
  pub calls : ℕ
  pub failing : List ℕ

-- a source in memory that never fails
pub record SureSource : Type 0 where
  pub left : List ℕ
  pub taken : List ℕ
  pub ended : Bool

-- a sink in memory: the room that is left, how many calls there were, and the numbers of the
-- calls that fail
pub record SinkInMemory : Type 0 where
  pub given : List ℕ
  pub faults : ℕ
  pub room : ℕ
  pub calls : ℕ
  pub failing : List ℕ

-- what every source tells, of these
abbrev pub source_state : SourceInMemory → SourceState
source_state s = record { left = Some s.left; taken = s.taken; ended = s.ended; faults = s.faults }

abbrev pub sure_state : SureSource → SourceState
sure_state s = record { left = Some s.left; taken = s.taken; ended = s.ended; faults = 0 }

abbrev pub sink_state : SinkInMemory → SinkState
sink_state s = record { given = Some s.given; faults = s.faults }

-- one more call, which isn't one of the failing ones
pub record TakesInTurn (before now : SourceInMemory) : Type 0 where
  pub counted : now.calls ≡ count_up before.calls
  pub not_failing : Contains before.failing now.calls → ⊥
  pub faults_stay : now.faults ≡ before.faults
  pub chunk_stays : now.chunk ≡ before.chunk
  pub failing_stay : now.failing ≡ before.failing

-- one more call, which is one of the failing ones
pub record FailsInTurn (before now : SourceInMemory) : Type 0 where
  pub counted : now.calls ≡ count_up before.calls
  pub failing : Contains before.failing now.calls
  pub fault_counted : now.faults ≡ count_up before.faults
  pub chunk_stays : now.chunk ≡ before.chunk
  pub failing_stay : now.failing ≡ before.failing

-- as many of the bytes that are left as may be given, and the end where none is left
abbrev pub GivesNext : List ℕ → ℕ → Took → Type 0
GivesNext left most (Bytes n) = (0 < length left) × (n ≡ min most (length left))
GivesNext left most End = left ≡ []
GivesNext left most Failed = ⊥

-- exactly how many bytes a take of a source in memory gives, and when it ends or fails
abbrev pub TakesFromMemory : SourceInMemory → SourceInMemory → ℕ → Took → Type 0
TakesFromMemory before now room (Bytes n) =
    TakesInTurn before now × GivesNext before.left (min before.chunk room) (Bytes n)
TakesFromMemory before now room End =
    TakesInTurn before now × GivesNext before.left (min before.chunk room) End
TakesFromMemory before now room Failed = FailsInTurn before now

-- one more call of a sink in memory
pub record IsNextGive (before now : SinkInMemory) : Type 0 where
  pub counted : now.calls ≡ count_up before.calls
  pub failing_stay : now.failing ≡ before.failing

-- the piece was appended, for which there was room, in a call that isn't one of the failing ones
pub record GivesInTurn (before now : SinkInMemory) (piece : List ℕ) : Type 0 where
  pub not_failing : Contains before.failing now.calls → ⊥
  pub had_room : length piece ≤ before.room
  pub appended : now.given ≡ before.given ++ piece
  pub room_left : now.room ≡ before.room - length piece
  pub faults_stay : now.faults ≡ before.faults

-- nothing was appended and a fault was counted, since the call is one of the failing ones or the
-- piece is longer than the room
pub record FailsToGive (before now : SinkInMemory) (piece : List ℕ) : Type 0 where
  pub cause : Contains before.failing now.calls ⊎ (before.room < length piece)
  pub given_stays : now.given ≡ before.given
  pub room_stays : now.room ≡ before.room
  pub fault_counted : now.faults ≡ count_up before.faults

-- exactly when a give to a sink in memory fails, and what it leaves
abbrev pub GivesToMemory : SinkInMemory → SinkInMemory → List ℕ → Gave → Type 0
GivesToMemory before now piece All =
    IsNextGive before now × GivesInTurn before now piece
GivesToMemory before now piece GiveFailed =
    IsNextGive before now × FailsToGive before now piece
