-- What the steps that find the first item answer, which only the code and its proofs use: what the
-- first item is stands in Grammar. This project's own.
use Rattle.std.specs.Prelude.{◌≡◌, ◌⊎◌, slice_index, ℕ, ◌-◌, ◌<◌, ◌≤◌, true, List, length, drop}
use Rattle.palp_input.specs.Pieces.{pieces_of, line_feed}
use Rattle.palp_input.specs.Lines.{line_read}
use Rattle.palp_input.specs.Grammar.{listed, Next, Nothing, Given, Faulty, line_end, line_item, next_of}
use Rattle.palp_input.specs.declared.grammar.Found.{Found}
use Rattle.palp_input.specs.declared.grammar.Found.TheVariants.{Nothing as FoundNothing, Given as FoundItem, Faulty as FoundFault}

-- the place stands behind a line end, or at the end of the text
abbrev pub IsLineEnd : List ℕ → ℕ → Type 0
IsLineEnd text end = (end ≡ length text) ⊎ (slice_index text (end - 1) ≡ line_feed)

-- the first item of a text begins at the place
pub record StartsAt (text : List ℕ) (start : ℕ) : Type 0 where
  pub within : start < length text
  pub is_next : next_of text ≡ line_item text (line_end text start) (line_read text true (pieces_of start (drop start text)))

-- the first item that the code found, as contracts see it
abbrev pub told : Found → Next
told FoundNothing = Nothing
told (FoundItem item end) = Given (listed item) end
told (FoundFault fault) = Faulty fault

-- an item has a byte, and it or its fault ends in the text, which has so many bytes
abbrev pub EndsIn : ℕ → Found → Type 0
EndsIn size FoundNothing = Unit {0}
EndsIn size (FoundItem item end) = (1 ≤ end) × (end ≤ size)
EndsIn size (FoundFault fault) = fault.end ≤ size

-- an item ends with a line end or with the text
abbrev pub EndsLine : List ℕ → Found → Type 0
EndsLine text FoundNothing = Unit {0}
EndsLine text (FoundItem item end) = IsLineEnd text end
EndsLine text (FoundFault fault) = Unit {0}
