-- The numbers of an item's first line, and the entries of a matrix. Weight lines and headers follow
-- PALP's manual, arXiv:1205.4147, section 3; which text is ignored, and the faults, are this project's own.
use Rattle.std.specs.Prelude.{ℕ, ◌+◌, ℤ, pos, negsuc, Bool, false, List, [], ◌∷◌, zero, suc, slice_range, if◌then◌else◌, eqb}
use Rattle.std.specs.List.{starts_with}
use lib.Chars.{codes}
use Rattle.palp_input.specs.Numerals.{numeral_of}
use Rattle.palp_input.specs.declared.pieces.Piece.{Piece}
use Rattle.palp_input.specs.declared.pieces.Piece.TheVariants.{Token, Wrong, LineEnd}
use Rattle.palp_input.specs.declared.numerals.Numeral.{Numeral}
use Rattle.palp_input.specs.declared.numerals.Numeral.TheVariants.{NoNumber, TooLarge, Number}
use Rattle.palp_input.specs.declared.lines.LineNumber.{LineNumber}
use Rattle.palp_input.specs.declared.fault.TextKind.{TextKind}
use Rattle.palp_input.specs.declared.fault.TextKind.TheVariants.{BadNumber, NumberRange, Quotient, BadByte}
use Rattle.palp_input.specs.declared.fault.ItemFault.{ItemFault}

-- a fault, with its place and with the place behind the last byte of the faulty item
abbrev pub fault_at : TextKind → ℕ → ℕ → ItemFault
fault_at kind at end = record { kind = kind; at = at; end = end }

-- the numbers of a line, or its fault
pub data LineRead : Type 0 where
  LeadingNumbers : List LineNumber → LineRead
  FaultyLine : ItemFault → LineRead

-- a number in front of the others
abbrev pub before_line : LineNumber → LineRead → LineRead
before_line number (LeadingNumbers numbers) = LeadingNumbers (number ∷ numbers)
before_line number (FaultyLine fault) = FaultyLine fault

-- what a token of a first line that isn't a number says: the first one is wrong, and another
-- begins the ignored text
abbrev pub other_token : Bool → ℕ → ℕ → List ℕ → LineRead
other_token first at end token =
    if first then FaultyLine (fault_at BadNumber at end)
    else (if starts_with eqb token (codes "/Z") then FaultyLine (fault_at Quotient at (at + 2)) else LeadingNumbers [])

-- what a token of a first line says, in front of the rest of the line
abbrev pub line_token : Bool → ℕ → ℕ → List ℕ → Numeral → LineRead → LineRead
line_token first at end token NoNumber rest = other_token first at end token
line_token first at end token TooLarge rest = FaultyLine (fault_at NumberRange at end)
line_token first at end token (Number (pos value)) rest = before_line (record { at = at; value = value }) rest
line_token first at end token (Number (negsuc value)) rest = FaultyLine (fault_at NumberRange at end)

-- the leading numbers of a line, or the first fault from the left
abbrev pub line_read : List ℕ → Bool → List Piece → LineRead
line_read text first [] = LeadingNumbers []
line_read text first (LineEnd at ∷ pieces) = LeadingNumbers []
line_read text first (Wrong at ∷ pieces) = FaultyLine (fault_at BadByte at (at + 1))
line_read text first (Token token ∷ pieces) =
    line_token first token.at token.end (slice_range text token.at token.end)
    (numeral_of (slice_range text token.at token.end)) (line_read text false pieces)

-- the entries of a matrix and the place behind the last one, or its fault, or too few of them
pub data MatrixRead : Type 0 where
  AllEntries : List ℤ → ℕ → MatrixRead
  FaultyMatrix : ItemFault → MatrixRead
  MissingEntries : MatrixRead

abbrev pub before_entries : ℤ → MatrixRead → MatrixRead
before_entries entry (AllEntries entries after) = AllEntries (entry ∷ entries) after
before_entries entry (FaultyMatrix fault) = FaultyMatrix fault
before_entries entry MissingEntries = MissingEntries

-- what a token of a matrix says, in front of what follows
abbrev pub matrix_token : ℕ → ℕ → Numeral → MatrixRead → MatrixRead
matrix_token at end NoNumber rest = FaultyMatrix (fault_at BadNumber at end)
matrix_token at end TooLarge rest = FaultyMatrix (fault_at NumberRange at end)
matrix_token at end (Number value) rest = before_entries value rest

-- so many entries, parted by blanks and line ends in any way, or the first fault from the left;
-- `after` is the place behind the number before them
abbrev pub matrix_read : List ℕ → ℕ → ℕ → List Piece → MatrixRead
matrix_read text zero after pieces = AllEntries [] after
matrix_read text (suc count) after [] = MissingEntries
matrix_read text (suc count) after (LineEnd at ∷ pieces) = matrix_read text (suc count) after pieces
matrix_read text (suc count) after (Wrong at ∷ pieces) = FaultyMatrix (fault_at BadByte at (at + 1))
matrix_read text (suc count) after (Token token ∷ pieces) =
    matrix_token token.at token.end (numeral_of (slice_range text token.at token.end)) (matrix_read text count token.end pieces)
