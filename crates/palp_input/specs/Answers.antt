-- What the answers of a reader say of the reading of a text. This project's own.
use Rattle.std.specs.Prelude.{◌≡◌, ℕ, true, List, [], ◌++◌}
use Rattle.std.specs.Prelude.{Option, Some, None, Result, Ok, Err}
use Rattle.palp_input.specs.Grammar.{listed, Nothing, Given, Faulty, NextWithin, Known, Beyond, text_fault}
use Rattle.palp_input.specs.Grammar.{TextRead, End, FaultEnd, TooLongEnd, no_more, with_item, reading_behind}
use Rattle.palp_input.specs.Reading.{ReaderState}
use Rattle.palp_input.specs.declared.fault.NextFault.{NextFault}
use Rattle.palp_input.specs.declared.fault.NextFault.TheVariants.{Text, TooLong, Read, NoMemory}
use Rattle.palp_input.specs.declared.item.Item.{Item}

-- the reading of the bytes that a reader holds and of those that its source has left
abbrev pub reading_of : ReaderState → List ℕ → TextRead
reading_of state left = reading_behind state.bytes state.lines (state.held ++ left)

-- an item is the first one of the reading, and the reading after the call has those behind it
pub record ReadsItem (before now : ReaderState) (left : List ℕ) (left_now : Option (List ℕ)) (item : Item) : Type 0 where
  pub more : List ℕ
  pub told : left_now ≡ Some more
  pub reads : reading_of before left ≡ with_item (listed item) now.bytes (reading_of now more)

-- what an answer says of the reading
abbrev pub AnswerReads : Result (Option Item) NextFault → ReaderState → ReaderState → List ℕ → Option (List ℕ) → Type 0
AnswerReads (Ok (Some item)) before now left left_now = ReadsItem before now left left_now item
AnswerReads (Ok None) before now left left_now = reading_of before left ≡ no_more End
AnswerReads (Err (Text fault)) before now left left_now = reading_of before left ≡ no_more (FaultEnd fault)
AnswerReads (Err TooLong) before now left left_now = reading_of before left ≡ no_more TooLongEnd
AnswerReads (Err Read) before now left left_now = Unit {0}
AnswerReads (Err NoMemory) before now left left_now = Unit {0}

-- a call reads on in the bytes that it took, whether the source tells its bytes or not: whatever comes
-- behind them, an item is the first one of the reading, and else the reading of these bytes ends
abbrev pub AnswerReadsTaken : Result (Option Item) NextFault → ReaderState → ReaderState → List ℕ → Type 0
AnswerReadsTaken (Ok (Some item)) before now bytes = (more : List ℕ) → (now.ended ≡ true → more ≡ [])
    → reading_of before (bytes ++ more) ≡ with_item (listed item) now.bytes (reading_of now more)
AnswerReadsTaken (Ok None) before now bytes = reading_of before bytes ≡ no_more End
AnswerReadsTaken (Err (Text fault)) before now bytes = reading_of before bytes ≡ no_more (FaultEnd fault)
AnswerReadsTaken (Err TooLong) before now bytes = reading_of before bytes ≡ no_more TooLongEnd
AnswerReadsTaken (Err Read) before now bytes = Unit {0}
AnswerReadsTaken (Err NoMemory) before now bytes = Unit {0}

-- the answer to what is next in some bytes
abbrev pub IsAnswer : ReaderState → List ℕ → NextWithin → Result (Option Item) NextFault → Type 0
IsAnswer before rest (Known Nothing) result = result ≡ Ok None
IsAnswer before rest (Known (Given item end)) result = (given : Item) × (result ≡ Ok (Some given)) × (listed given ≡ item)
IsAnswer before rest (Known (Faulty fault)) result = result ≡ Err (Text (text_fault before.lines rest fault))
IsAnswer before rest Beyond result = result ≡ Err TooLong
