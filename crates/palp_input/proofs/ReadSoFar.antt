-- Numbers read so far, in front of what the rest of the text gives.
use Rattle.std.proofs.Common.{◌≡◌, ℕ, suc, ◌+◌, ◌-◌, ◌<◌, ℤ, Bool, false, List, [], ◌∷◌, ◌++◌, length, drop, slice_range, refl, sym, ap, ◌∙◌, arith}
use Rattle.std.specs.Prelude.{◌==◌}
use Rattle.std.proofs.lemmas.Bool.Decides.{nat_tests}
use Rattle.palp_input.specs.PieceSteps.{without_line_ends, IsWithin}
use Rattle.palp_input.specs.Pieces.{pieces_of}
use Rattle.palp_input.specs.declared.pieces.Span.{Span}
use Rattle.palp_input.specs.declared.matrices.Part.{Part}
use Rattle.palp_input.specs.declared.matrices.Part.TheVariants.{Entry, Fault, Missing}
use Rattle.palp_input.specs.declared.pieces.Piece.{Piece}
use Rattle.palp_input.specs.declared.pieces.Piece.TheVariants.{Token, Wrong, LineEnd}
use Rattle.palp_input.specs.Numerals.{numeral_of}
use Rattle.palp_input.specs.Lines.{LineRead, LeadingNumbers, FaultyLine, before_line, MatrixRead, AllEntries, FaultyMatrix, MissingEntries, before_entries, matrix_read, matrix_token}
use Rattle.palp_input.specs.LineSteps.{matrix_behind, entry_in_front, EntryEndsAt, EntryMeans}
use Rattle.palp_input.specs.declared.lines.LineNumber.{LineNumber}
use Rattle.palp_input.specs.declared.fault.ItemFault.{ItemFault}

-- numbers in front of the rest of a line
abbrev pub line_behind : List LineNumber → LineRead → LineRead
line_behind [] rest = rest
line_behind (number ∷ numbers) rest = before_line number (line_behind numbers rest)

-- one number more
pub line_behind-push : (numbers : List LineNumber) (number : LineNumber) (rest : LineRead)
    → line_behind (numbers ++ number ∷ []) rest ≡ line_behind numbers (before_line number rest)
line_behind-push [] number rest = refl
line_behind-push (first ∷ numbers) number rest = ap (before_line first) (line_behind-push numbers number rest)

-- the end of the numbers, and a fault behind them
pub line_behind-end : (numbers : List LineNumber) → line_behind numbers (LeadingNumbers []) ≡ LeadingNumbers numbers
line_behind-end [] = refl
line_behind-end (first ∷ numbers) = ap (before_line first) (line_behind-end numbers)

pub line_behind-fault : (numbers : List LineNumber) (fault : ItemFault) → line_behind numbers (FaultyLine fault) ≡ FaultyLine fault
line_behind-fault [] fault = refl
line_behind-fault (first ∷ numbers) fault = ap (before_line first) (line_behind-fault numbers fault)

-- one entry more
pub matrix_behind-push : (entries : List ℤ) (entry : ℤ) (rest : MatrixRead)
    → matrix_behind (entries ++ entry ∷ []) rest ≡ matrix_behind entries (before_entries entry rest)
matrix_behind-push [] entry rest = refl
matrix_behind-push (first ∷ entries) entry rest = ap (before_entries first) (matrix_behind-push entries entry rest)

-- the last entry, a fault and the end of the text behind the entries
pub matrix_behind-end : (entries : List ℤ) (after : ℕ) → matrix_behind entries (AllEntries [] after) ≡ AllEntries entries after
matrix_behind-end [] after = refl
matrix_behind-end (first ∷ entries) after = ap (before_entries first) (matrix_behind-end entries after)

pub matrix_behind-fault : (entries : List ℤ) (fault : ItemFault) → matrix_behind entries (FaultyMatrix fault) ≡ FaultyMatrix fault
matrix_behind-fault [] fault = refl
matrix_behind-fault (first ∷ entries) fault = ap (before_entries first) (matrix_behind-fault entries fault)

pub matrix_behind-missing : (entries : List ℤ) → matrix_behind entries MissingEntries ≡ MissingEntries
matrix_behind-missing [] = refl
matrix_behind-missing (first ∷ entries) = ap (before_entries first) (matrix_behind-missing entries)

-- the numbers so far, with one more
pub line_more : (total : LineRead) (numbers now : List LineNumber) (number : LineNumber) (here rest : Bool → LineRead) (count count_now : ℕ)
    (first : Bool)
    → total ≡ line_behind numbers (here (count == 0)) → first ≡ (count == 0) → here first ≡ before_line number (rest false)
    → now ≡ numbers ++ number ∷ [] → count_now ≡ count + 1 → total ≡ line_behind now (rest (count_now == 0))
line_more total numbers now number here rest count count_now first h f e n c =
    let some : (count_now == 0) ≡ false = grind (arith, nat_tests) in
    h ∙ ap (λ (b : Bool). line_behind numbers (here b)) (sym f) ∙ ap (line_behind numbers) e
    ∙ sym (line_behind-push numbers number (rest false))
    ∙ ap (λ (ns : List LineNumber). line_behind ns (rest false)) (sym n)
    ∙ ap (λ (b : Bool). line_behind now (rest b)) (sym some)

-- the entries so far, with one more
pub entries_more : (total : MatrixRead) (entries now : List ℤ) (entry : ℤ) (here rest : MatrixRead)
    → total ≡ matrix_behind entries here → here ≡ before_entries entry rest → now ≡ entries ++ entry ∷ []
    → total ≡ matrix_behind now rest
entries_more total entries now entry here rest h e n =
    h ∙ ap (matrix_behind entries) e ∙ sym (matrix_behind-push entries entry rest)
    ∙ ap (λ (es : List ℤ). matrix_behind es rest) (sym n)

-- where entries are missing yet
pub at_least_one : (left : ℕ) → 0 < left → left ≡ suc (left - 1)
at_least_one left h = omega arith

-- line ends don't count
pub matrix_read-line_ends : (text : List ℕ) (count after : ℕ) (pieces : List Piece)
    → matrix_read text (suc count) after pieces ≡ matrix_read text (suc count) after (without_line_ends pieces)
matrix_read-line_ends text count after [] = refl
matrix_read-line_ends text count after (Token token ∷ pieces) = refl
matrix_read-line_ends text count after (Wrong at ∷ pieces) = refl
matrix_read-line_ends text count after (LineEnd at ∷ pieces) = matrix_read-line_ends text count after pieces

-- what a token in the place of an entry is
pub word_entry : (text : List ℕ) (place : ℕ) (pieces : List Piece) (token : Span) (part : Part)
    → without_line_ends pieces ≡ Token token ∷ pieces_of token.end (drop token.end text)
    → IsWithin place (length text) token.at token.end
    → ((rest : MatrixRead) → entry_in_front part rest ≡ matrix_token token.at token.end (numeral_of (slice_range text token.at token.end))
    rest)
    → EntryEndsAt part token.end → EntryMeans text place pieces part
word_entry text place pieces token (Entry entry end) is within means ends = record {
  reads = λ count after. matrix_read-line_ends text count after pieces ∙ ap (matrix_read text (suc count) after) is
      ∙ sym (means (matrix_read text count token.end (pieces_of token.end (drop token.end text))))
      ∙ ap (λ (p : ℕ). before_entries entry (matrix_read text count p (pieces_of p (drop p text)))) (sym ends);
  some = omega (arith, within.least, within.some, ends);
  most = omega (arith, within.most, ends);
}
word_entry text place pieces token (Fault fault) is within means ends = λ count after.
    matrix_read-line_ends text count after pieces ∙ ap (matrix_read text (suc count) after) is
    ∙ sym (means (matrix_read text count token.end (pieces_of token.end (drop token.end text))))
word_entry text place pieces token Missing is within means ends = λ count after.
    matrix_read-line_ends text count after pieces ∙ ap (matrix_read text (suc count) after) is
    ∙ sym (means (matrix_read text count token.end (pieces_of token.end (drop token.end text))))
