-- What holds of the reading of a text, and of the items that it has. This project's own.
use Rattle.std.specs.Prelude.{◌≡◌, ◌≢◌, ℕ, ◌+◌, ◌-◌, ◌<◌, ◌≤◌, List, ◌++◌}
use Rattle.std.specs.Prelude.{map, length, take, drop, Option, Some, Result, Err}
use Rattle.lattice_core.specs.Weights.{Weighted}
use Rattle.palp_input.specs.Systems.{PlacedSystem, Summed, systems_read, numbers_of, numbers_in}
use Rattle.palp_input.specs.Grammar.{Listed, ListedWeights, weights_item, Nothing, Given, Faulty, next_of}
use Rattle.palp_input.specs.Grammar.{Known, Beyond, next_within, most_bytes, line_feeds, text_fault}
use Rattle.palp_input.specs.Grammar.{End, FaultEnd, TooLongEnd, no_more, with_item, read_behind, reading_behind}
use Rattle.palp_input.specs.declared.lines.LineNumber.{LineNumber}
use Rattle.palp_io.specs.Source.{SourceState}
use Rattle.palp_input.specs.Items.{IsItem}
use Rattle.palp_input.specs.Answers.{AnswerReads, AnswerReadsTaken, IsAnswer}
use Rattle.palp_input.specs.Reading.{ReaderState, NextMeans}
use Rattle.palp_input.specs.declared.fault.ItemFault.{ItemFault}
use Rattle.palp_input.specs.declared.fault.NextFault.{NextFault}
use Rattle.palp_input.specs.declared.fault.NextFault.TheVariants.{Read, NoMemory}
use Rattle.palp_input.specs.declared.item.Item.{Item}

-- a reading has all items, whatever greater number of them is allowed
abbrev pub HasAllItems : Type 0
HasAllItems = (most bytes lines : ℕ) (rest : List ℕ) → length rest < most
    → read_behind most bytes lines rest ≡ reading_behind bytes lines rest

-- what a reading has after its first item is the reading of the bytes behind that item's end, with
-- bytes and lines counted on
abbrev pub GoesOn : Type 0
GoesOn = (bytes lines : ℕ) (rest : List ℕ) (item : Listed) (end : ℕ) → next_within (most_bytes - bytes) rest ≡ Known (Given item end)
    → reading_behind bytes lines rest
    ≡ with_item item (bytes + end) (reading_behind (bytes + end) (lines + line_feeds (take end rest)) (drop end rest))

-- a reading with no further item ends, with a fault where the next item is faulty, and else with
-- too many bytes where no item ends within them
abbrev pub Ends : Type 0
Ends = (bytes lines : ℕ) (rest : List ℕ) → next_within (most_bytes - bytes) rest ≡ Known Nothing
    → reading_behind bytes lines rest ≡ no_more End

abbrev pub EndsFaulty : Type 0
EndsFaulty = (bytes lines : ℕ) (rest : List ℕ) (fault : ItemFault) → next_within (most_bytes - bytes) rest ≡ Known (Faulty fault)
    → reading_behind bytes lines rest ≡ no_more (FaultEnd (text_fault lines rest fault))

abbrev pub EndsTooLong : Type 0
EndsTooLong = (bytes lines : ℕ) (rest : List ℕ) → next_within (most_bytes - bytes) rest ≡ Beyond
    → reading_behind bytes lines rest ≡ no_more TooLongEnd

-- a call over a source that tells its bytes reads on in them
abbrev pub CallsRead : Type 0
CallsRead = (result : Result (Option Item) NextFault) (before now : ReaderState) (left : List ℕ) (source source_now : SourceState)
    → source.left ≡ Some left → NextMeans result before now source source_now → AnswerReads result before now left source_now.left

-- a call reads on in the bytes that it took, whether the source tells its bytes or not
abbrev pub CallsReadTaken : Type 0
CallsReadTaken = (result : Result (Option Item) NextFault) (before now : ReaderState) (source source_now : SourceState)
    (m : NextMeans result before now source source_now) → AnswerReadsTaken result before now m.bytes

-- a call over a source that tells its bytes, where it has memory and the source doesn't fail, gives
-- each answer exactly where it is the answer to what is next in the bytes held and left
abbrev pub CallsAnswer : Type 0
CallsAnswer = (result : Result (Option Item) NextFault) (before now : ReaderState) (left : List ℕ) (source source_now : SourceState)
    → source.left ≡ Some left → NextMeans result before now source source_now
    → result ≢ Err Read → result ≢ Err NoMemory
    → IsAnswer before (before.held ++ left) (next_within (most_bytes - before.bytes) (before.held ++ left)) result

-- what each item of a text is
abbrev pub ItemsAreItems : Type 0
ItemsAreItems = (text : List ℕ) (item : Listed) (end : ℕ) → next_of text ≡ Given item end → IsItem item

-- an item has a byte, and so has its text
abbrev pub ItemsHaveBytes : Type 0
ItemsHaveBytes = (text : List ℕ) (item : Listed) (end : ℕ) → next_of text ≡ Given item end → (1 ≤ end) × (1 ≤ length text)

-- wherever the numbers of a line are read into systems, the systems are written with exactly these
-- numbers, each at its place
abbrev pub SystemsKeepNumbers : Type 0
SystemsKeepNumbers = (numbers : List LineNumber) (systems : List PlacedSystem) → systems_read (length numbers) numbers ≡ Summed systems
    → numbers_of systems ≡ numbers

-- and so are the systems of an item
abbrev pub ItemsKeepNumbers : Type 0
ItemsKeepNumbers = (end place : ℕ) (numbers : List LineNumber) (systems : List Weighted)
    → weights_item end numbers ≡ Given (ListedWeights systems) place
    → numbers_in systems ≡ map (λ (n : LineNumber). n.value) numbers
