-- What the calls of a reader answer. This project's own.
use Rattle.std.specs.Prelude.{◌≡◌, ◌≢◌, ℕ, ◌+◌, ◌-◌, ◌≤◌, Bool, true, false, List, ◌++◌, length, take, drop, slice_index}
use Rattle.std.specs.Prelude.{Option, [], Some, None, IfSome, Result, Ok, Err}
use Rattle.palp_io.specs.Source.{SourceState, HasEnded, Passes}
use Rattle.palp_io.specs.Faults.{Rose}
use Rattle.palp_input.specs.Pieces.{line_feed}
use Rattle.palp_input.specs.Grammar.{Listed, listed, Nothing, Given, Faulty, NextWithin, Known, Beyond, next_within, next_of}
use Rattle.palp_input.specs.Grammar.{most_bytes, line_feeds, text_fault}
use Rattle.palp_input.specs.declared.fault.ItemFault.{ItemFault}
use Rattle.palp_input.specs.declared.fault.TextFault.{TextFault}
use Rattle.palp_input.specs.declared.fault.NextFault.{NextFault}
use Rattle.palp_input.specs.declared.fault.NextFault.TheVariants.{Text, TooLong, Read, NoMemory}
use Rattle.palp_input.specs.declared.item.Item.{Item}

-- a reader: how many bytes and lines it has passed, the bytes that were taken and aren't passed
-- yet, whether it may be asked on, and whether a take has answered `End`
pub record ReaderState : Type 0 where
  pub bytes : ℕ
  pub lines : ℕ
  pub held : List ℕ
  pub live : Bool
  pub ended : Bool

-- the source that is handed in has ended where a take of this reader has answered `End`
abbrev pub IsHanded : ReaderState → SourceState → Type 0
IsHanded reader source = reader.ended ≡ true → HasEnded source

-- the next item of the bytes held and those that the source has left, where it tells them
abbrev pub IsNextItem : ReaderState → Option (List ℕ) → NextWithin → Type 0
IsNextItem before left next = IfSome left (λ bytes. next_within (most_bytes - before.bytes) (before.held ++ bytes) ≡ next)

-- the next item of the bytes held and those that were taken
abbrev pub IsNextTaken : ReaderState → List ℕ → NextWithin → Type 0
IsNextTaken before bytes next = next_within (most_bytes - before.bytes) (before.held ++ bytes) ≡ next

-- an item: it is the first one of the bytes held and taken, which fall into a part up to its end, which
-- is passed, and a part that is held. Where its last line has no line end the source has ended
pub record GivesItem (before now : ReaderState) (bytes : List ℕ) (source : SourceState) (item : Item) : Type 0 where
  pub end : ℕ
  pub some : 1 ≤ end
  pub within : end ≤ length (before.held ++ bytes)
  pub most : before.bytes + end ≤ most_bytes
  pub is_first : next_of (before.held ++ bytes) ≡ Given (listed item) end
  pub parts : now ≡ record {
    bytes = before.bytes + end;
    lines = before.lines + line_feeds (take end (before.held ++ bytes));
    held = drop end (before.held ++ bytes);
    live = true;
    ended = now.ended;
  }
  pub is_next : IsNextItem before source.left (Known (Given (listed item) end))
  pub ended_unless : slice_index (before.held ++ bytes) (end - 1) ≢ line_feed → now.ended ≡ true

-- the end of the text
pub record GivesEnd (before now : ReaderState) (bytes : List ℕ) (source : SourceState) : Type 0 where
  pub of_taken : IsNextTaken before bytes (Known Nothing)
  pub is_next : IsNextItem before source.left (Known Nothing)
  pub has_ended : now.ended ≡ true
  pub stops : now.live ≡ false

-- a fault of the next item
pub record GivesFault (before now : ReaderState) (bytes : List ℕ) (source : SourceState) (fault : TextFault) : Type 0 where
  pub item_fault : ItemFault
  pub of_taken : IsNextTaken before bytes (Known (Faulty item_fault))
  pub place_taken : fault ≡ text_fault before.lines (before.held ++ bytes) item_fault
  pub is_next : IsNextItem before source.left (Known (Faulty item_fault))
  pub place : IfSome source.left (λ left. fault ≡ text_fault before.lines (before.held ++ left) item_fault)
  pub stops : now.live ≡ false

-- more bytes than a text may have, and the next item doesn't end within as many as it may
pub record GivesTooLong (before now : ReaderState) (bytes : List ℕ) (source : SourceState) : Type 0 where
  pub of_taken : IsNextTaken before bytes Beyond
  pub is_next : IsNextItem before source.left Beyond
  pub stops : now.live ≡ false

-- no item has its line end in the bytes
abbrev pub HasNoItem : List ℕ → Type 0
HasNoItem text = (item : Listed) (end : ℕ) → next_of text ≡ Given item end → slice_index text (end - 1) ≢ line_feed

-- the source failed, and no item has its line end in the bytes held and taken
pub record GivesRead (before now : ReaderState) (bytes : List ℕ) (source source_now : SourceState) : Type 0 where
  pub rose : Rose source.faults source_now.faults
  pub stops : now.live ≡ false
  pub unended : before.ended ≡ false
  pub no_item : HasNoItem (before.held ++ bytes)

-- what an answer means
abbrev pub AnswerMeans : Result (Option Item) NextFault → ReaderState → ReaderState → List ℕ → SourceState → SourceState → Type 0
AnswerMeans (Ok (Some item)) before now bytes source source_now = GivesItem before now bytes source item
AnswerMeans (Ok None) before now bytes source source_now = GivesEnd before now bytes source
AnswerMeans (Err (Text fault)) before now bytes source source_now = GivesFault before now bytes source fault
AnswerMeans (Err TooLong) before now bytes source source_now = GivesTooLong before now bytes source
AnswerMeans (Err Read) before now bytes source source_now = GivesRead before now bytes source source_now
AnswerMeans (Err NoMemory) before now bytes source source_now = now.live ≡ false

-- nothing was taken
pub record IsUntaken (bytes : List ℕ) (source source_now : SourceState) : Type 0 where
  pub nothing : bytes ≡ []
  pub same : source_now ≡ source

-- a call: the bytes that it took, none where a take had answered `End` before, and what its answer means
pub record NextMeans (result : Result (Option Item) NextFault) (before now : ReaderState) (source source_now : SourceState) : Type 0 where
  pub bytes : List ℕ
  pub passes : Passes source source_now bytes
  pub most : before.bytes + length before.held + length bytes ≤ most_bytes + 1
  pub later : source.faults ≤ source_now.faults
  pub untaken : before.ended ≡ true → IsUntaken bytes source source_now
  pub handed : IsHanded now source_now
  pub keeps : before.ended ≡ true → now.ended ≡ true
  pub answer : AnswerMeans result before now bytes source source_now
