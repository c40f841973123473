-- What the adapters do to the bytes of a stream of std, where the stream tells them.
-- This project's own.
use Rattle.std.specs.Prelude.{◌≡◌, ℕ, Bool, List, [], Option, None}
use Rattle.std.specs.Io.KnownBytes.{Appends, IsAtEnd}
use Rattle.palp_io.specs.Faults.{count_up}
use Rattle.palp_io.specs.Sink.{SinkState, IsPrefix}
use Rattle.palp_io.specs.Source.{SourceState}
use Rattle.palp_io.specs.declared.taking.Took.{Took}
use Rattle.palp_io.specs.declared.taking.Took.TheVariants.{Bytes, End, Failed}
use Rattle.palp_io.specs.declared.giving.Gave.{Gave}
use Rattle.palp_io.specs.declared.giving.Gave.TheVariants.{All, Failed as GiveFailed}

-- a reader of std as a source, and a writer as a sink: they tell no bytes
abbrev pub untold_source : Bool → ℕ → SourceState
untold_source ended faults = record { left = None; taken = []; ended = ended; faults = faults }

abbrev pub untold_sink : ℕ → SinkState
untold_sink faults = record { given = None; faults = faults }

-- a source ended, so nothing is left of its stream
abbrev pub EndsStream : Took → Option (List ℕ) → Type 0
EndsStream (Bytes n) left_now = Unit {0}
EndsStream End left_now = IsAtEnd left_now
EndsStream Failed left_now = Unit {0}

-- exactly the takes that failed are counted
abbrev pub CountsTake : Took → ℕ → ℕ → Type 0
CountsTake (Bytes n) before now = now ≡ before
CountsTake End before now = now ≡ before
CountsTake Failed before now = now ≡ count_up before

-- exactly the gives that failed are counted
abbrev pub CountsGive : Gave → ℕ → ℕ → Type 0
CountsGive All before now = now ≡ before
CountsGive GiveFailed before now = now ≡ count_up before

-- a front of the piece was appended to what the stream holds
pub record WritesFront (piece : List ℕ) (before now : Option (List ℕ)) : Type 0 where
  pub front : List ℕ
  pub is_front : IsPrefix front piece
  pub appended : Appends before now front

-- what a give appended to what the stream holds
abbrev pub WritesPiece : Gave → List ℕ → Option (List ℕ) → Option (List ℕ) → Type 0
WritesPiece All piece before now = Appends before now piece
WritesPiece GiveFailed piece before now = WritesFront piece before now
