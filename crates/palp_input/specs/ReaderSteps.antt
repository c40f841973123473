-- What the fields and the steps of a reader mean, which only its code and its proofs use: what a call
-- answers is in Reading. This project's own.
use Rattle.std.specs.Prelude.{◌≡◌, ℕ, ◌+◌, ◌-◌, ◌<◌, ◌≤◌, ◌⊎◌, true, false, List, [], ◌++◌, length, take, drop, slice_index}
use Rattle.std.specs.Prelude.{Option, Some, None, Result, Ok, Err}
use Rattle.palp_io.specs.Source.{SourceState, HasEnded, Passes}
use Rattle.palp_io.specs.Faults.{Rose}
use Rattle.palp_input.specs.OpeningSteps.{IsKnownFault, Seen}
use Rattle.palp_input.specs.declared.reader.TheConstants.{CHUNK}
use Rattle.palp_input.specs.declared.reader.Held.{Held}
use Rattle.palp_input.specs.declared.reader.Held.TheVariants.{Item as HeldItem, Unknown as HeldUnknown}
use Rattle.palp_input.specs.Pieces.{line_feed}
use Rattle.palp_input.specs.ItemSteps.{IsLineEnd}
use Rattle.palp_input.specs.Grammar.{listed, Nothing, Given, Faulty, Beyond, ends_within, next_of, most_bytes, line_feeds, text_fault}
use Rattle.palp_input.specs.declared.fault.ItemFault.{ItemFault}
use Rattle.palp_input.specs.declared.fault.TextFault.{TextFault}
use Rattle.palp_input.specs.declared.fault.NextFault.{NextFault}
use Rattle.palp_input.specs.declared.fault.NextFault.TheVariants.{Text, TooLong, Read, NoMemory}
use Rattle.palp_input.specs.declared.item.Item.{Item}
use Rattle.palp_input.specs.Reading.{ReaderState}

-- what stands in the fields of a reader
pub record IsReader (position bytes lines : ℕ) (held : List ℕ) (next_take : ℕ) : Type 0 where
  pub within : position ≤ length held
  pub takes_some : 1 ≤ next_take
  pub takes_most : next_take ≤ CHUNK
  pub most : bytes + (length held - position) ≤ most_bytes + 1
  pub passed_most : bytes ≤ most_bytes
  pub lines_most : lines ≤ bytes

-- the reader after an item of this end
abbrev pub passed_by : ReaderState → ℕ → ReaderState
passed_by before end = record {
  bytes = before.bytes + end;
  lines = before.lines + line_feeds (take end before.held);
  held = drop end before.held;
  live = true;
  ended = before.ended;
}

-- an item that is held with the line end behind it
pub record IsHeldItem (before now : ReaderState) (item : Item) : Type 0 where
  pub end : ℕ
  pub some : 1 ≤ end
  pub inside : end ≤ length before.held
  pub within : before.bytes + end ≤ most_bytes
  pub is_next : next_of before.held ≡ Given (listed item) end
  pub line_ends : slice_index before.held (end - 1) ≡ line_feed
  pub passed : now ≡ passed_by before end

-- a faulty item that is known
pub record IsHeldFault (before now : ReaderState) (fault : TextFault) : Type 0 where
  pub item_fault : ItemFault
  pub known : IsKnownFault before.held item_fault
  pub place : fault ≡ text_fault before.lines before.held item_fault
  pub stays : now ≡ before

-- no item that ends within the most bytes
pub record IsLastTooLong (before now : ReaderState) : Type 0 where
  pub beyond : ends_within (most_bytes - before.bytes) (next_of before.held) ≡ Beyond
  pub longer : most_bytes < before.bytes + length before.held
  pub stays : now ≡ before

-- what the bytes held give
abbrev pub HeldMeans : Result Held NextFault → ReaderState → ReaderState → Type 0
HeldMeans (Ok (HeldItem item)) before now = IsHeldItem before now item
HeldMeans (Ok (HeldUnknown front)) before now = (now ≡ before) × Seen before.held front
HeldMeans (Err (Text fault)) before now = IsHeldFault before now fault
HeldMeans (Err TooLong) before now = IsLastTooLong before now
HeldMeans (Err Read) before now = ⊥
HeldMeans (Err NoMemory) before now = now ≡ before

-- bytes that one take appends to others: none where the source has ended
abbrev pub AppendMeans : Result ℕ NextFault → List ℕ → SourceState → SourceState → Type 0
AppendMeans (Ok count) bytes source source_now = (length bytes ≡ count) × (count ≡ 0 → HasEnded source_now)
AppendMeans (Err (Text fault)) bytes source source_now = ⊥
AppendMeans (Err TooLong) bytes source source_now = ⊥
AppendMeans (Err Read) bytes source source_now = (bytes ≡ []) × Rose source.faults source_now.faults
AppendMeans (Err NoMemory) bytes source source_now = bytes ≡ []

pub record TakeIntoMeans (result : Result ℕ NextFault) (before now : List ℕ) (room : ℕ) (source source_now : SourceState) : Type 0 where
  pub bytes : List ℕ
  pub passes : Passes source source_now bytes
  pub most : length bytes ≤ room
  pub later : source.faults ≤ source_now.faults
  pub appended : now ≡ before ++ bytes
  pub append : AppendMeans result bytes source source_now

-- why a take gave no bytes
abbrev pub TakeEnds : Result (Unit {0}) NextFault → ReaderState → ReaderState → List ℕ → SourceState → SourceState → Type 0
TakeEnds (Ok done) before now bytes source source_now = ((now.ended ≡ false) × (1 ≤ length bytes)) ⊎ ((now.ended ≡ true) × HasEnded source_now)
TakeEnds (Err (Text fault)) before now bytes source source_now = ⊥
TakeEnds (Err TooLong) before now bytes source source_now = ⊥
TakeEnds (Err Read) before now bytes source source_now = (now.ended ≡ false) × (bytes ≡ []) × Rose source.faults source_now.faults
TakeEnds (Err NoMemory) before now bytes source source_now = now.ended ≡ false

-- a take: its bytes are held behind the others
pub record TakeMoreMeans (result : Result (Unit {0}) NextFault) (before now : ReaderState) (source source_now : SourceState) : Type 0 where
  pub bytes : List ℕ
  pub passes : Passes source source_now bytes
  pub most : before.bytes + length before.held + length bytes ≤ most_bytes + 1
  pub later : source.faults ≤ source_now.faults
  pub chunk : length bytes ≤ CHUNK
  pub held : now ≡ record before { held = before.held ++ bytes; ended = now.ended }
  pub ends : TakeEnds result before now bytes source source_now

-- an item of the bytes held
pub record IsLastItem (before now : ReaderState) (item : Item) : Type 0 where
  pub end : ℕ
  pub some : 1 ≤ end
  pub most : end ≤ length before.held
  pub within : before.bytes + end ≤ most_bytes
  pub is_next : next_of before.held ≡ Given (listed item) end
  pub line_ends : IsLineEnd before.held end
  pub passed : now ≡ passed_by before end

-- no item
pub record IsLastEnd (before now : ReaderState) : Type 0 where
  pub within : before.bytes + length before.held ≤ most_bytes
  pub is_next : next_of before.held ≡ Nothing
  pub stays : now ≡ before

-- a faulty item
pub record IsLastFault (before now : ReaderState) (fault : TextFault) : Type 0 where
  pub item_fault : ItemFault
  pub within : before.bytes + item_fault.end ≤ most_bytes
  pub most : item_fault.end ≤ length before.held
  pub is_next : next_of before.held ≡ Faulty item_fault
  pub place : fault ≡ text_fault before.lines before.held item_fault
  pub stays : now ≡ before

abbrev pub LastMeans : Result (Option Item) NextFault → ReaderState → ReaderState → Type 0
LastMeans (Ok (Some item)) before now = IsLastItem before now item
LastMeans (Ok None) before now = IsLastEnd before now
LastMeans (Err (Text fault)) before now = IsLastFault before now fault
LastMeans (Err TooLong) before now = IsLastTooLong before now
LastMeans (Err Read) before now = ⊥
LastMeans (Err NoMemory) before now = now ≡ before
