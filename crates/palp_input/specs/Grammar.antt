-- The items of a text: the first item with its end, or its fault, and all items with the ending.
-- Places are counted from 0, lines and columns from 1. Weight lines and matrices with a header follow
-- PALP's manual, arXiv:1205.4147, section 3; the grammar and its faults are this project's own.
use Rattle.std.specs.Prelude.{ℕ, ◌+◌, ◌-◌, ◌*◌, ℤ, true, List, [], ◌∷◌, map, length, take, drop, zero, suc, Some, None, if◌then◌else◌, ◌==◌, nat_le}
use Rattle.std.specs.List.{count_by}
use Rattle.lattice_core.specs.Weights.{Weighted, weighted}
use Rattle.palp_input.specs.declared.reader.TheConstants.{MOST_BYTES}
use Rattle.palp_input.specs.Pieces.{pieces_of, first_line_end, line_len, line_feed}
use Rattle.palp_input.specs.Lines.{fault_at, line_read, LineRead, LeadingNumbers, FaultyLine, matrix_read, MatrixRead, AllEntries, FaultyMatrix, MissingEntries}
use Rattle.palp_input.specs.Systems.{PlacedSystem, SystemsRead, Summed, WrongSum, systems_read, other_length, zero_column, weighted_of}
use Rattle.palp_input.specs.declared.pieces.Piece.{Piece}
use Rattle.palp_input.specs.declared.pieces.Piece.TheVariants.{Token, Wrong, LineEnd}
use Rattle.palp_input.specs.declared.lines.LineNumber.{LineNumber}
use Rattle.palp_input.specs.declared.fault.TextKind.TheVariants.{MatrixShort, WeightSum, Lengths, ZeroColumn, NoWeights}
use Rattle.palp_input.specs.declared.fault.ItemFault.{ItemFault}
use Rattle.palp_input.specs.declared.fault.TextFault.{TextFault}
use Rattle.palp_input.specs.declared.item.Item.{Item}
use Rattle.palp_input.specs.declared.item.Item.TheVariants.{Weights, Points}

-- what contracts see of an item: its systems, or its header and its entries, row by row
pub data Listed : Type 0 where
  ListedWeights : List Weighted → Listed
  ListedPoints : (lines columns : ℕ) → List ℤ → Listed

abbrev pub listed : Item → Listed
listed (Weights systems) = ListedWeights (map weighted systems.items)
listed (Points matrix) = ListedPoints matrix.lines matrix.columns matrix.entries.items

-- the first item of a text: there is none, or it ends at a place, or it is faulty
pub data Next : Type 0 where
  Nothing : Next
  Given : Listed → ℕ → Next
  Faulty : ItemFault → Next

-- the place behind the line that holds the place
abbrev pub line_end : List ℕ → ℕ → ℕ
line_end text at = at + line_len (drop at text)

-- what a list of summed systems is, on a line with this end: their lengths, then their zeros
abbrev pub summed_item : List PlacedSystem → ℕ → Next
summed_item [] end = Nothing
summed_item (first ∷ systems) end = elim (other_length (length first.weights) systems) [
  | Some at ↦ Faulty (fault_at Lengths at end)
  | None ↦ elim (zero_column 0 first.weights (first ∷ systems)) [
    | Some at ↦ Faulty (fault_at ZeroColumn at end)
    | None ↦ Given (ListedWeights (map weighted_of (first ∷ systems))) end
  ]
]

abbrev pub systems_item : SystemsRead → ℕ → Next
systems_item (WrongSum at) end = Faulty (fault_at WeightSum at end)
systems_item (Summed systems) end = summed_item systems end

-- a matrix with the header's place: the entries begin on the next line, and after the last one
-- the rest of its line is ignored
abbrev pub matrix_item : List ℕ → ℕ → ℕ → ℕ → MatrixRead → Next
matrix_item text at lines columns (AllEntries entries after) = Given (ListedPoints lines columns entries) (line_end text after)
matrix_item text at lines columns (FaultyMatrix fault) = Faulty fault
matrix_item text at lines columns MissingEntries = Faulty (fault_at MatrixShort at (length text))

-- the item of a header whose line has this end: where lines times columns is 0 nothing follows
abbrev pub header_item : List ℕ → ℕ → LineNumber → LineNumber → Next
header_item text end lines columns =
    if lines.value * columns.value == 0 then Given (ListedPoints lines.value columns.value []) end
    else matrix_item text lines.at lines.value columns.value
    (matrix_read text (lines.value * columns.value) end (pieces_of end (drop end text)))

-- the item of a weight line with this end
abbrev pub weights_item : ℕ → List LineNumber → Next
weights_item end numbers = systems_item (systems_read (length numbers) numbers) end

-- what the numbers of a first line with this end are: two are a header, and three or more are a
-- weight line whose first number isn't 0
abbrev pub numbers_item : List ℕ → ℕ → List LineNumber → Next
numbers_item text end [] = Nothing
numbers_item text end (only ∷ []) = Faulty (fault_at NoWeights only.at end)
numbers_item text end (lines ∷ columns ∷ []) = header_item text end lines columns
numbers_item text end (degree ∷ first ∷ second ∷ more) =
    if degree.value == 0 then Faulty (fault_at NoWeights degree.at end)
    else weights_item end (degree ∷ first ∷ second ∷ more)

abbrev pub line_item : List ℕ → ℕ → LineRead → Next
line_item text end (FaultyLine fault) = Faulty fault
line_item text end (LeadingNumbers numbers) = numbers_item text end numbers

-- lines of blanks only are skipped, and another line begins an item
abbrev pub pieces_item : List ℕ → List Piece → Next
pieces_item text [] = Nothing
pieces_item text (LineEnd at ∷ pieces) = pieces_item text pieces
pieces_item text (Wrong at ∷ pieces) = line_item text (first_line_end (length text) pieces) (line_read text true (Wrong at ∷ pieces))
pieces_item text (Token token ∷ pieces) =
    line_item text (first_line_end (length text) pieces) (line_read text true (Token token ∷ pieces))

abbrev pub next_of : List ℕ → Next
next_of text = pieces_item text (pieces_of 0 text)

-- the most bytes of a text
abbrev pub most_bytes : ℕ
most_bytes = MOST_BYTES

-- the first item of a text of which so many bytes may be read: where the text is longer, it counts
-- only where it ends within them
pub data NextWithin : Type 0 where
  Known : Next → NextWithin
  Beyond : NextWithin

abbrev pub ends_within : ℕ → Next → NextWithin
ends_within room Nothing = Beyond
ends_within room (Given item end) = if nat_le end room then Known (Given item end) else Beyond
ends_within room (Faulty fault) = if nat_le fault.end room then Known (Faulty fault) else Beyond

abbrev pub next_within : ℕ → List ℕ → NextWithin
next_within room text = if nat_le (length text) room then Known (next_of text) else ends_within room (next_of text)

-- the line ends among the bytes
abbrev pub line_feeds : List ℕ → ℕ
line_feeds bytes = count_by (λ (b : ℕ). b == line_feed) bytes

-- the column behind some bytes of a text
abbrev pub column_behind : ℕ → List ℕ → ℕ
column_behind column [] = column
column_behind column (byte ∷ bytes) = column_behind (if byte == line_feed then 1 else column + 1) bytes

-- a fault with its line and column, in a text that stands behind so many lines
abbrev pub text_fault : ℕ → List ℕ → ItemFault → TextFault
text_fault lines text fault = record {
  kind = fault.kind;
  line = lines + line_feeds (take fault.at text) + 1;
  column = column_behind 1 (take fault.at text);
}

-- how a text ends
pub data TextEnd : Type 0 where
  End : TextEnd
  FaultEnd : TextFault → TextEnd
  TooLongEnd : TextEnd

-- the items of a text, each with the place at which it ends, and the ending
pub record TextRead : Type 0 where
  pub items : List Listed
  pub ends : List ℕ
  pub ending : TextEnd

abbrev pub no_more : TextEnd → TextRead
no_more ending = record { items = []; ends = []; ending = ending }

-- an item in front of those behind it, with the place at which it ends
abbrev pub with_item : Listed → ℕ → TextRead → TextRead
with_item item end more = record { items = item ∷ more.items; ends = end ∷ more.ends; ending = more.ending }

-- the reading of bytes that stand behind so many bytes and lines of a text, by what is next in them
-- and by the reading behind an item of each end
abbrev pub read_next : ℕ → ℕ → List ℕ → NextWithin → (ℕ → TextRead) → TextRead
read_next bytes lines rest Beyond more = no_more TooLongEnd
read_next bytes lines rest (Known Nothing) more = no_more End
read_next bytes lines rest (Known (Faulty fault)) more = no_more (FaultEnd (text_fault lines rest fault))
read_next bytes lines rest (Known (Given item end)) more = with_item item (bytes + end) (more end)

-- the items of the bytes that stand behind so many bytes and lines of a text: at most so many
abbrev pub read_behind : ℕ → ℕ → ℕ → List ℕ → TextRead
read_behind zero bytes lines rest = no_more End
read_behind (suc most) bytes lines rest = read_next bytes lines rest (next_within (most_bytes - bytes) rest)
    (λ end. read_behind most (bytes + end) (lines + line_feeds (take end rest)) (drop end rest))

-- all items of such bytes, and the ending; each item has a byte, so there are no more than bytes
abbrev pub reading_behind : ℕ → ℕ → List ℕ → TextRead
reading_behind bytes lines rest = read_behind (length rest + 1) bytes lines rest

-- the items of a text and its ending
abbrev pub read_text : List ℕ → TextRead
read_text text = reading_behind 0 0 text
