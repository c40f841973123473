-- An item ends with a line end or with the text.
use Rattle.std.proofs.Common.{◌≡◌, ℕ, zero, suc, ◌+◌, ◌-◌, ◌*◌, ◌≤◌, inl, inr, Bool, true, false, cond, List, [], ◌∷◌, ◌++◌, length, map, take, drop, Option, Some, None, refl, subst, ◌∙◌, arith, append_assoc, length-append, length-drop}
use Rattle.std.specs.Prelude.{◌==◌, slice_index, slice_range}
use Rattle.std.proofs.lemmas.Bool.Decides.{nat_tests}
use Rattle.std.proofs.lemmas.List.{take-append-drop, length-take-le}
use Rattle.std.proofs.Math.Seq.{get_or-append_seam}
use Rattle.palp_input.specs.Pieces.{is_blank, is_token_byte, line_feed, join_token, pieces_of, first_line_end}
use Rattle.palp_input.specs.Numerals.{numeral_of}
use Rattle.palp_input.specs.Lines.{LineRead, LeadingNumbers, FaultyLine, line_read, fault_at, MatrixRead, AllEntries, FaultyMatrix, MissingEntries, matrix_read, matrix_token}
use Rattle.palp_input.specs.Systems.{SystemsRead, Summed, WrongSum, systems_read, other_length, zero_column, weighted_of}
use Rattle.palp_input.specs.ItemSteps.{IsLineEnd}
use Rattle.palp_input.specs.Grammar.{Listed, ListedPoints, ListedWeights, Next, Nothing, Given, Faulty, line_end, systems_item, matrix_item, weights_item, numbers_item, line_item, pieces_item, next_of}
use Rattle.palp_input.specs.declared.pieces.Piece.{Piece}
use Rattle.palp_input.specs.declared.pieces.Piece.TheVariants.{Token, Wrong, LineEnd}
use Rattle.palp_input.specs.declared.pieces.Span.{Span}
use Rattle.palp_input.specs.declared.numerals.Numeral.{Numeral}
use Rattle.palp_input.specs.declared.numerals.Numeral.TheVariants.{NoNumber, TooLarge, Number}
use Rattle.palp_input.specs.declared.lines.LineNumber.{LineNumber}
use Rattle.palp_input.specs.declared.fault.TextKind.TheVariants.{Lengths, ZeroColumn, NoWeights}
use Rattle.palp_input.proofs.TokenRuns.{step_by}
use Rattle.palp_input.proofs.Starts.{line_len-pieces}

-- the pieces stand in the text: their line ends are line ends of it, and their tokens end in it
data Placed (text : List ℕ) : List Piece → Type 0 where
  none_placed : Placed text []
  token_placed : (token : Span) (pieces : List Piece) → token.end ≤ length text → Placed text pieces → Placed text (Token token ∷ pieces)
  wrong_placed : (at : ℕ) (pieces : List Piece) → Placed text pieces → Placed text (Wrong at ∷ pieces)
  feed_placed : (at : ℕ) (pieces : List Piece) → at + 1 ≤ length text → slice_index text at ≡ line_feed → Placed text pieces
      → Placed text (LineEnd at ∷ pieces)

join_placed_case : (text : List ℕ) (at : ℕ) (token : Span) (pieces : List Piece) (b : Bool) → at + 1 ≤ length text → token.end ≤ length text
    → Placed text pieces
    → Placed text (cond b (Token (record { at = at; end = token.end }) ∷ pieces)
    (Token (record { at = at; end = at + 1 }) ∷ Token token ∷ pieces))
join_placed_case text at token pieces true le in_text h = token_placed (record { at = at; end = token.end }) pieces in_text h
join_placed_case text at token pieces false le in_text h =
    token_placed (record { at = at; end = at + 1 }) (Token token ∷ pieces) le (token_placed token pieces in_text h)

join_placed : (text : List ℕ) (at : ℕ) (pieces : List Piece) → at + 1 ≤ length text → Placed text pieces
    → Placed text (join_token at pieces)
join_placed text at _ le none_placed = token_placed (record { at = at; end = at + 1 }) [] le none_placed
join_placed text at _ le (token_placed token pieces in_text h) =
    join_placed_case text at token pieces (token.at == at + 1) le in_text h
join_placed text at _ le (wrong_placed place pieces h) =
    token_placed (record { at = at; end = at + 1 }) (Wrong place ∷ pieces) le (wrong_placed place pieces h)
join_placed text at _ le (feed_placed place pieces in_text is h) =
    token_placed (record { at = at; end = at + 1 }) (LineEnd place ∷ pieces) le (feed_placed place pieces in_text is h)

step_placed : (text : List ℕ) (blank feed token : Bool) (at : ℕ) (pieces : List Piece) → at + 1 ≤ length text
    → (feed ≡ true → slice_index text at ≡ line_feed) → Placed text pieces → Placed text (step_by blank feed token at pieces)
unfolding step_by
step_placed text true feed token at pieces le is h = h
step_placed text false true token at pieces le is h = feed_placed at pieces le (is refl) h
step_placed text false false true at pieces le is h = join_placed text at pieces le h
step_placed text false false false at pieces le is h = wrong_placed at pieces h

is_feed : (byte : ℕ) → (byte == line_feed) ≡ true → byte ≡ line_feed
is_feed byte h = grind (arith, nat_tests)

inside : (size all bytes : ℕ) → all ≡ size + (bytes + 1) → size + 1 ≤ all
inside size all bytes e = omega arith

one_longer : (size bytes : ℕ) → size + suc bytes ≡ size + (bytes + 1)
one_longer size bytes = omega arith

-- the pieces of the bytes behind the first ones stand in the text
placed_behind : (first bytes : List ℕ) → Placed (first ++ bytes) (pieces_of (length first) bytes)
unfolding step_by
placed_behind first [] = none_placed
placed_behind first (byte ∷ bytes) =
    let text = first ++ byte ∷ bytes in
    let behind : Placed text (pieces_of (length (first ++ byte ∷ [])) bytes) =
    subst (λ (xs : List ℕ). Placed xs (pieces_of (length (first ++ byte ∷ [])) bytes)) (append_assoc first (byte ∷ []) bytes)
    (placed_behind (first ++ byte ∷ []) bytes) in
    step_placed text (is_blank byte) (byte == line_feed) (is_token_byte byte) (length first) (pieces_of (length first + 1) bytes)
    (inside (length first) (length text) (length bytes)
    (length-append first (byte ∷ bytes) ∙ one_longer (length first) (length bytes)))
    (λ h. get_or-append_seam first byte bytes 0 ∙ is_feed byte h)
    (subst (λ (n : ℕ). Placed text (pieces_of n bytes)) (length-append first (byte ∷ [])) behind)

placed_from : (text : List ℕ) (at : ℕ) → at ≤ length text → Placed text (pieces_of at (drop at text))
placed_from text at le =
    subst (λ (xs : List ℕ). Placed xs (pieces_of at (drop at text))) (take-append-drop at text)
    (subst (λ (n : ℕ). Placed (take at text ++ drop at text) (pieces_of n (drop at text))) (length-take-le at text le)
    (placed_behind (take at text) (drop at text)))

-- a place behind a line of the text
record EndsLineIn (text : List ℕ) (end : ℕ) : Type 0 where
  pub line : IsLineEnd text end
  pub within : end ≤ length text

same_place : (a : ℕ) → a ≤ a
same_place a = omega arith

before_one_more : (at : ℕ) → at ≡ at + 1 - 1
before_one_more at = omega arith

first_line : (text : List ℕ) (pieces : List Piece) → Placed text pieces → EndsLineIn text (first_line_end (length text) pieces)
first_line text _ none_placed = record { line = inl refl; within = same_place (length text) }
first_line text _ (token_placed token pieces in_text h) = first_line text pieces h
first_line text _ (wrong_placed at pieces h) = first_line text pieces h
first_line text _ (feed_placed at pieces in_text is h) =
    record { line = inr (subst (λ (n : ℕ). slice_index text n ≡ line_feed) (before_one_more at) is); within = in_text }

rest_size : (size at rest : ℕ) → at ≤ size → rest ≡ size - at → size ≡ at + rest
rest_size size at rest le e = omega arith

-- the line that holds a place
line_of_place : (text : List ℕ) (at : ℕ) → at ≤ length text → EndsLineIn text (line_end text at)
line_of_place text at le =
    subst (EndsLineIn text) (line_len-pieces (length text) at (drop at text)
    (rest_size (length text) at (length (drop at text)) le (length-drop at text)))
    (first_line text (pieces_of at (drop at text)) (placed_from text at le))

-- the place behind the last entry of a matrix stands in the text
EntriesIn : ℕ → MatrixRead → Type 0
EntriesIn size (AllEntries entries after) = after ≤ size
EntriesIn size (FaultyMatrix fault) = Unit {0}
EntriesIn size MissingEntries = Unit {0}

entries_token : (size at end : ℕ) (numeral : Numeral) (rest : MatrixRead) → EntriesIn size rest
    → EntriesIn size (matrix_token at end numeral rest)
unfolding EntriesIn
entries_token size at end NoNumber rest h = tt
entries_token size at end TooLarge rest h = tt
entries_token size at end (Number value) (AllEntries entries after) h = h
entries_token size at end (Number value) (FaultyMatrix fault) h = tt
entries_token size at end (Number value) MissingEntries h = tt

entries_in : (text : List ℕ) (count after : ℕ) (pieces : List Piece) → after ≤ length text → Placed text pieces
    → EntriesIn (length text) (matrix_read text count after pieces)
unfolding EntriesIn
entries_in text zero after pieces le h = le
entries_in text (suc count) after _ le none_placed = tt
entries_in text (suc count) after _ le (token_placed token pieces in_text h) =
    entries_token (length text) token.at token.end (numeral_of (slice_range text token.at token.end)) (matrix_read text count token.end pieces)
    (entries_in text count token.end pieces in_text h)
entries_in text (suc count) after _ le (wrong_placed at pieces h) = tt
entries_in text (suc count) after _ le (feed_placed at pieces in_text is h) = entries_in text (suc count) after pieces le h

-- an item ends behind a line
ItemEndsLine : List ℕ → Next → Type 0
ItemEndsLine text Nothing = Unit {0}
ItemEndsLine text (Given item end) = IsLineEnd text end
ItemEndsLine text (Faulty fault) = Unit {0}

lengths_line : (text : List ℕ) (end : ℕ) (other column : Option ℕ) (item : Listed) → IsLineEnd text end
    → ItemEndsLine text (elim other as (λ _. Next) [
      | Some at ↦ Faulty (fault_at Lengths at end)
      | None ↦ elim column as (λ _. Next) [ Some at ↦ Faulty (fault_at ZeroColumn at end) | None ↦ Given item end ]
    ])
unfolding ItemEndsLine
lengths_line text end (Some at) column item h = tt
lengths_line text end None (Some at) item h = tt
lengths_line text end None None item h = h

systems_line : (text : List ℕ) (read : SystemsRead) (end : ℕ) → IsLineEnd text end → ItemEndsLine text (systems_item read end)
unfolding ItemEndsLine
systems_line text (WrongSum at) end h = tt
systems_line text (Summed []) end h = tt
systems_line text (Summed (first ∷ systems)) end h =
    lengths_line text end (other_length (length first.weights) systems) (zero_column 0 first.weights (first ∷ systems))
    (ListedWeights (map weighted_of (first ∷ systems))) h

matrix_line : (text : List ℕ) (at lines columns : ℕ) (read : MatrixRead) → EntriesIn (length text) read
    → ItemEndsLine text (matrix_item text at lines columns read)
unfolding EntriesIn ItemEndsLine
matrix_line text at lines columns (AllEntries entries after) h = (line_of_place text after h).line
matrix_line text at lines columns (FaultyMatrix fault) h = tt
matrix_line text at lines columns MissingEntries h = tt

header_line : (text : List ℕ) (end : ℕ) (lines columns : LineNumber) (none : Bool) → EndsLineIn text end
    → ItemEndsLine text (cond none (Given (ListedPoints lines.value columns.value []) end)
    (matrix_item text lines.at lines.value columns.value
    (matrix_read text (lines.value * columns.value) end (pieces_of end (drop end text)))))
unfolding ItemEndsLine
header_line text end lines columns true h = h.line
header_line text end lines columns false h = matrix_line text lines.at lines.value columns.value
    (matrix_read text (lines.value * columns.value) end (pieces_of end (drop end text)))
    (entries_in text (lines.value * columns.value) end (pieces_of end (drop end text)) h.within (placed_from text end h.within))

numbers_line : (text : List ℕ) (end : ℕ) (numbers : List LineNumber) → EndsLineIn text end
    → ItemEndsLine text (numbers_item text end numbers)
unfolding ItemEndsLine
numbers_line text end [] h = tt
numbers_line text end (only ∷ []) h = tt
numbers_line text end (lines ∷ columns ∷ []) h = header_line text end lines columns (lines.value * columns.value == 0) h
numbers_line text end (degree ∷ first ∷ second ∷ more) h =
    elim (degree.value == 0) as (λ b.
    ItemEndsLine text (cond b (Faulty (fault_at NoWeights degree.at end)) (weights_item end (degree ∷ first ∷ second ∷ more)))) [
      | true ↦ tt
      | false ↦ systems_line text (systems_read (length (degree ∷ first ∷ second ∷ more)) (degree ∷ first ∷ second ∷ more)) end h.line
    ]

line_item_line : (text : List ℕ) (end : ℕ) (read : LineRead) → EndsLineIn text end → ItemEndsLine text (line_item text end read)
unfolding ItemEndsLine
line_item_line text end (FaultyLine fault) h = tt
line_item_line text end (LeadingNumbers numbers) h = numbers_line text end numbers h

pieces_line : (text : List ℕ) (pieces : List Piece) → Placed text pieces → ItemEndsLine text (pieces_item text pieces)
unfolding ItemEndsLine
pieces_line text _ none_placed = tt
pieces_line text _ (feed_placed at pieces in_text is h) = pieces_line text pieces h
pieces_line text _ (token_placed token pieces in_text h) =
    line_item_line text (first_line_end (length text) pieces) (line_read text true (Token token ∷ pieces)) (first_line text pieces h)
pieces_line text _ (wrong_placed at pieces h) =
    line_item_line text (first_line_end (length text) pieces) (line_read text true (Wrong at ∷ pieces)) (first_line text pieces h)

pub item_ends_line : (text : List ℕ) (item : Listed) (end : ℕ) → next_of text ≡ Given item end → IsLineEnd text end
unfolding ItemEndsLine
item_ends_line text item end e = subst (ItemEndsLine text) e (pieces_line text (pieces_of 0 text) (placed_behind [] text))
