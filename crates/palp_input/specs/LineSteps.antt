-- What the steps that read a line or a matrix answer, which only the code and its proofs use: what
-- they read is in Lines. This project's own.
use Rattle.std.specs.Prelude.{◌≡◌, ℕ, ◌<◌, ◌≤◌, ℤ, Bool, false, List, [], ◌∷◌, suc, length, drop}
use Rattle.palp_input.specs.Pieces.{pieces_of}
use Rattle.palp_input.specs.declared.pieces.Piece.{Piece}
use Rattle.palp_input.specs.declared.lines.LineNumber.{LineNumber}
use Rattle.palp_input.specs.declared.lines.Line.{Line}
use Rattle.palp_input.specs.declared.lines.Line.TheVariants.{Numbers, Fault as LineFault}
use Rattle.palp_input.specs.declared.lines.Part.{Part}
use Rattle.palp_input.specs.declared.lines.Part.TheVariants.{Number as PartNumber, Rest, Fault as PartFault}
use Rattle.palp_input.specs.declared.matrices.Part.{Part as EntryPart}
use Rattle.palp_input.specs.declared.matrices.Part.TheVariants.{Entry, Fault as EntryFault, Missing}
use Rattle.palp_input.specs.declared.matrices.Entries.{Entries}
use Rattle.palp_input.specs.declared.matrices.Entries.TheVariants.{All, Fault as EntriesFault, TooFew}
use Rattle.palp_input.specs.Lines.{LineRead, before_line, line_read, MatrixRead, before_entries, matrix_read, LeadingNumbers, FaultyLine, AllEntries, FaultyMatrix, MissingEntries}

-- what the code answers, as contracts see it
abbrev pub line_read_of : Line → LineRead
line_read_of (Numbers numbers) = LeadingNumbers numbers.items
line_read_of (LineFault fault) = FaultyLine fault

abbrev pub matrix_read_of : Entries → MatrixRead
matrix_read_of (All entries after) = AllEntries entries.items after
matrix_read_of (EntriesFault fault) = FaultyMatrix fault
matrix_read_of TooFew = MissingEntries

-- a part of a line, in front of the rest of it
abbrev pub part_in_front : Part → LineRead → LineRead
part_in_front (PartNumber number end) rest = before_line number rest
part_in_front Rest rest = LeadingNumbers []
part_in_front (PartFault fault) rest = FaultyLine fault

-- the place behind a number
abbrev pub EndsAt : Part → ℕ → Type 0
EndsAt (PartNumber number end) place = end ≡ place
EndsAt Rest place = Unit {0}
EndsAt (PartFault fault) place = Unit {0}

-- a number at the front of the pieces, and the place behind it
pub record IsNextNumber (text : List ℕ) (place : ℕ) (first : Bool) (pieces : List Piece) (number : LineNumber) (end : ℕ) : Type 0 where
  pub reads : line_read text first pieces ≡ before_line number (line_read text false (pieces_of end (drop end text)))
  pub some : place < end
  pub most : end ≤ length text

-- what the part of a line is whose pieces begin at the place
abbrev pub PartMeans : List ℕ → ℕ → Bool → List Piece → Part → Type 0
PartMeans text place first pieces (PartNumber number end) = IsNextNumber text place first pieces number end
PartMeans text place first pieces Rest = line_read text first pieces ≡ LeadingNumbers []
PartMeans text place first pieces (PartFault fault) = line_read text first pieces ≡ FaultyLine fault

-- entries in front of the rest of a matrix
abbrev pub matrix_behind : List ℤ → MatrixRead → MatrixRead
matrix_behind [] rest = rest
matrix_behind (entry ∷ entries) rest = before_entries entry (matrix_behind entries rest)

-- what stands in the place of an entry, in front of what follows
abbrev pub entry_in_front : EntryPart → MatrixRead → MatrixRead
entry_in_front (Entry entry end) rest = before_entries entry rest
entry_in_front (EntryFault fault) rest = FaultyMatrix fault
entry_in_front Missing rest = MissingEntries

-- the place behind an entry
abbrev pub EntryEndsAt : EntryPart → ℕ → Type 0
EntryEndsAt (Entry entry end) place = end ≡ place
EntryEndsAt (EntryFault fault) place = Unit {0}
EntryEndsAt Missing place = Unit {0}

-- an entry at the front of the pieces, and the place behind it
pub record IsNextEntry (text : List ℕ) (place : ℕ) (pieces : List Piece) (entry : ℤ) (end : ℕ) : Type 0 where
  pub reads : (count after : ℕ) → matrix_read text (suc count) after pieces
      ≡ before_entries entry (matrix_read text count end (pieces_of end (drop end text)))
  pub some : place < end
  pub most : end ≤ length text

-- what stands in the place of an entry where the pieces begin at the place
abbrev pub EntryMeans : List ℕ → ℕ → List Piece → EntryPart → Type 0
EntryMeans text place pieces (Entry entry end) = IsNextEntry text place pieces entry end
EntryMeans text place pieces (EntryFault fault) = (count after : ℕ) → matrix_read text (suc count) after pieces ≡ FaultyMatrix fault
EntryMeans text place pieces Missing = (count after : ℕ) → matrix_read text (suc count) after pieces ≡ MissingEntries

-- the place behind the last entry stands from a place on in a text of so many bytes
abbrev pub EntriesWithin : ℕ → ℕ → Entries → Type 0
EntriesWithin from size (All entries after) = (from ≤ after) × (after ≤ size)
EntriesWithin from size (EntriesFault fault) = fault.end ≤ size
EntriesWithin from size TooFew = Unit {0}

-- a fault of a line ends in a text of so many bytes
abbrev pub LineWithin : ℕ → Line → Type 0
LineWithin size (Numbers numbers) = Unit {0}
LineWithin size (LineFault fault) = fault.end ≤ size

-- and so does a fault of a part
abbrev pub PartWithin : ℕ → Part → Type 0
PartWithin size (PartNumber number end) = Unit {0}
PartWithin size Rest = Unit {0}
PartWithin size (PartFault fault) = fault.end ≤ size

abbrev pub EntryWithin : ℕ → EntryPart → Type 0
EntryWithin size (Entry entry end) = Unit {0}
EntryWithin size (EntryFault fault) = fault.end ≤ size
EntryWithin size Missing = Unit {0}
