-- The place of a fault stands in the text.
use Rattle.std.proofs.Common.{◌≡◌, ℕ, zero, suc, ◌+◌, ◌-◌, ◌*◌, ◌≤◌, ◌⊎◌, inl, inr, pos, negsuc, Bool, true, false, cond, List, [], ◌∷◌, map, length, drop, slice_range, Option, Some, None, refl, subst, arith, length-drop}
use Rattle.std.specs.Prelude.{◌==◌, nat_le, eqb}
use Rattle.std.specs.List.{starts_with}
use Rattle.std.proofs.lemmas.List.{drop_all}
use Rattle.std.proofs.lemmas.Bool.Decides.{nat_tests}
use lib.Chars.{codes}
use Rattle.palp_input.specs.Pieces.{is_blank, is_token_byte, line_feed, join_token, pieces_of, first_line_end}
use Rattle.palp_input.specs.PieceSteps.{place_of}
use Rattle.palp_input.specs.Numerals.{numeral_of}
use Rattle.palp_input.specs.Lines.{LineRead, LeadingNumbers, FaultyLine, before_line, line_read, line_token, fault_at, MatrixRead, AllEntries, FaultyMatrix, MissingEntries, matrix_read, matrix_token}
use Rattle.palp_input.specs.Systems.{Taken, before_taken, take_weights, PlacedSystem, SystemsRead, Summed, WrongSum, before_systems, systems_read, other_length, is_zero_column, zero_column, weighted_of}
use Rattle.palp_input.specs.Grammar.{Listed, ListedPoints, ListedWeights, Next, Nothing, Given, Faulty, systems_item, matrix_item, numbers_item, line_item, pieces_item, next_of}
use Rattle.palp_input.specs.declared.pieces.Piece.{Piece}
use Rattle.palp_input.specs.declared.pieces.Piece.TheVariants.{Token, Wrong, LineEnd}
use Rattle.palp_input.specs.declared.pieces.Span.{Span}
use Rattle.palp_input.specs.declared.numerals.Numeral.{Numeral}
use Rattle.palp_input.specs.declared.numerals.Numeral.TheVariants.{NoNumber, TooLarge, Number}
use Rattle.palp_input.specs.declared.lines.LineNumber.{LineNumber}
use Rattle.palp_input.specs.declared.fault.TextKind.TheVariants.{NoWeights, Lengths, ZeroColumn, Quotient, BadNumber}
use Rattle.palp_input.specs.declared.fault.ItemFault.{ItemFault}
use Rattle.palp_input.proofs.TokenRuns.{step_by}

-- all pieces stand in a text of so many bytes
Below : ℕ → List Piece → Type 0
Below size [] = Unit {0}
Below size (piece ∷ pieces) = (place_of piece ≤ size) × Below size pieces

join_below_case : (size at : ℕ) (token : Span) (pieces : List Piece) (b : Bool) → at ≤ size → token.at ≤ size → Below size pieces
    → Below size (cond b (Token (record { at = at; end = token.end }) ∷ pieces)
    (Token (record { at = at; end = at + 1 }) ∷ Token token ∷ pieces))
unfolding Below
join_below_case size at token pieces true le lt rest = (le, rest)
join_below_case size at token pieces false le lt rest = (le, (lt, rest))

join_below : (size at : ℕ) (pieces : List Piece) → at ≤ size → Below size pieces → Below size (join_token at pieces)
unfolding Below
join_below size at [] le h = (le, tt)
join_below size at (Token token ∷ pieces) le h = join_below_case size at token pieces (token.at == at + 1) le h.0 h.1
join_below size at (Wrong place ∷ pieces) le h = (le, h)
join_below size at (LineEnd place ∷ pieces) le h = (le, h)

step_below : (blank feed token : Bool) (size at : ℕ) (pieces : List Piece) → at ≤ size → Below size pieces
    → Below size (step_by blank feed token at pieces)
unfolding Below step_by
step_below true feed token size at pieces le h = h
step_below false true token size at pieces le h = (le, h)
step_below false false true size at pieces le h = join_below size at pieces le h
step_below false false false size at pieces le h = (le, h)

below : (size at : ℕ) (bytes : List ℕ) → at + length bytes ≤ size → Below size (pieces_of at bytes)
unfolding Below step_by
below size at [] le = tt
below size at (byte ∷ bytes) le =
    step_below (is_blank byte) (byte == line_feed) (is_token_byte byte) size at (pieces_of (at + 1) bytes) (omega arith)
    (below size (at + 1) bytes (omega arith))

below_behind : (text : List ℕ) (end : ℕ) → ((end ≤ length text) ⊎ (length text ≤ end)) → Below (length text) (pieces_of end (drop end text))
unfolding Below
below_behind text end (inl le) = below (length text) end (drop end text) (simp length-drop (omega arith))
below_behind text end (inr le) = rw (drop_all end text le) tt

-- all numbers stand in the text, and so does the fault of a line
NumbersIn : ℕ → List LineNumber → Type 0
NumbersIn size [] = Unit {0}
NumbersIn size (number ∷ numbers) = (number.at ≤ size) × NumbersIn size numbers

LineIn : ℕ → LineRead → Type 0
LineIn size (LeadingNumbers numbers) = NumbersIn size numbers
LineIn size (FaultyLine fault) = fault.at ≤ size

before_in : (size : ℕ) (number : LineNumber) (rest : LineRead) → number.at ≤ size → LineIn size rest → LineIn size (before_line number rest)
unfolding LineIn NumbersIn
before_in size number (LeadingNumbers numbers) le h = (le, h)
before_in size number (FaultyLine fault) le h = h

other_in : (size : ℕ) (first : Bool) (at end : ℕ) (bytes : List ℕ) (quotient : Bool) → at ≤ size
    → LineIn size (cond first (FaultyLine (fault_at BadNumber at end))
    (cond quotient (FaultyLine (fault_at Quotient at (at + 2))) (LeadingNumbers [])))
unfolding LineIn NumbersIn
other_in size true at end bytes quotient le = le
other_in size false at end bytes true le = le
other_in size false at end bytes false le = tt

token_in : (size : ℕ) (first : Bool) (at end : ℕ) (bytes : List ℕ) (numeral : Numeral) (rest : LineRead) → at ≤ size → LineIn size rest
    → LineIn size (line_token first at end bytes numeral rest)
unfolding LineIn
token_in size first at end bytes NoNumber rest le h = other_in size first at end bytes (starts_with eqb bytes (codes "/Z")) le
token_in size first at end bytes TooLarge rest le h = le
token_in size first at end bytes (Number (pos value)) rest le h = before_in size (record { at = at; value = value }) rest le h
token_in size first at end bytes (Number (negsuc value)) rest le h = le

line_in : (text : List ℕ) (size : ℕ) (first : Bool) (pieces : List Piece) → Below size pieces → LineIn size (line_read text first pieces)
unfolding Below LineIn NumbersIn
line_in text size first [] h = tt
line_in text size first (Token token ∷ pieces) h =
    token_in size first token.at token.end (slice_range text token.at token.end) (numeral_of (slice_range text token.at token.end))
    (line_read text false pieces)
    h.0 (line_in text size false pieces h.1)
line_in text size first (Wrong at ∷ pieces) h = h.0
line_in text size first (LineEnd at ∷ pieces) h = tt

-- the fault of a matrix
MatrixIn : ℕ → MatrixRead → Type 0
MatrixIn size (AllEntries entries after) = Unit {0}
MatrixIn size (FaultyMatrix fault) = fault.at ≤ size
MatrixIn size MissingEntries = Unit {0}

entry_in : (size at end : ℕ) (numeral : Numeral) (rest : MatrixRead) → at ≤ size → MatrixIn size rest
    → MatrixIn size (matrix_token at end numeral rest)
unfolding MatrixIn
entry_in size at end NoNumber rest le h = le
entry_in size at end TooLarge rest le h = le
entry_in size at end (Number value) (AllEntries entries after) le h = tt
entry_in size at end (Number value) (FaultyMatrix fault) le h = h
entry_in size at end (Number value) MissingEntries le h = tt

matrix_in : (text : List ℕ) (size count after : ℕ) (pieces : List Piece) → Below size pieces
    → MatrixIn size (matrix_read text count after pieces)
unfolding Below MatrixIn
matrix_in text size zero after pieces h = tt
matrix_in text size (suc count) after [] h = tt
matrix_in text size (suc count) after (Token token ∷ pieces) h =
    entry_in size token.at token.end (numeral_of (slice_range text token.at token.end)) (matrix_read text count token.end pieces) h.0
    (matrix_in text size count token.end pieces h.1)
matrix_in text size (suc count) after (Wrong at ∷ pieces) h = h.0
matrix_in text size (suc count) after (LineEnd at ∷ pieces) h = matrix_in text size (suc count) after pieces h.1

-- the numbers of systems
SystemsIn : ℕ → List PlacedSystem → Type 0
SystemsIn size [] = Unit {0}
SystemsIn size (system ∷ systems) = (system.degree.at ≤ size) × NumbersIn size system.weights × SystemsIn size systems

ReadIn : ℕ → SystemsRead → Type 0
ReadIn size (Summed systems) = SystemsIn size systems
ReadIn size (WrongSum at) = at ≤ size

TakenIn : ℕ → Option Taken → Type 0
TakenIn size None = Unit {0}
TakenIn size (Some taken) = NumbersIn size taken.weights × NumbersIn size taken.rest

before_taken_in : (size : ℕ) (number : LineNumber) (taken : Option Taken) → number.at ≤ size → TakenIn size taken
    → TakenIn size (before_taken number taken)
unfolding TakenIn NumbersIn
before_taken_in size number None le h = tt
before_taken_in size number (Some taken) le h = ((le, h.0), h.1)

take_in_case : (size : ℕ) (number : LineNumber) (numbers : List LineNumber) (taken : Option Taken) (a b : Bool) → number.at ≤ size
    → NumbersIn size numbers → TakenIn size taken
    → TakenIn size (cond a (before_taken number taken) (cond b (Some (record { weights = []; rest = number ∷ numbers })) None))
unfolding TakenIn NumbersIn
take_in_case size number numbers taken true b le h k = before_taken_in size number taken le k
take_in_case size number numbers taken false true le h k = (tt, (le, h))
take_in_case size number numbers taken false false le h k = tt

take_in : (size degree : ℕ) (numbers : List LineNumber) → NumbersIn size numbers → TakenIn size (take_weights degree numbers)
unfolding TakenIn NumbersIn
take_in size degree [] h = elim (degree == 0) as (λ b. TakenIn size (cond b (Some (record { weights = []; rest = [] })) None))
    [ true ↦ (tt, tt) | false ↦ tt ]
take_in size degree (number ∷ numbers) h =
    take_in_case size number numbers (take_weights (degree - number.value) numbers) (nat_le number.value degree) (degree == 0) h.0 h.1
    (take_in size (degree - number.value) numbers h.1)

before_systems_in : (size : ℕ) (system : PlacedSystem) (read : SystemsRead) → system.degree.at ≤ size → NumbersIn size system.weights
    → ReadIn size read
    → ReadIn size (before_systems system read)
unfolding ReadIn SystemsIn
before_systems_in size system (Summed systems) le h k = (le, h, k)
before_systems_in size system (WrongSum at) le h k = k

systems_in_case : (size : ℕ) (degree : LineNumber) (taken : Option Taken) (rest : List LineNumber → SystemsRead) → degree.at ≤ size
    → TakenIn size taken
    → ((numbers : List LineNumber) → NumbersIn size numbers → ReadIn size (rest numbers))
    → ReadIn size (elim taken as (λ _. SystemsRead) [
      | None ↦ WrongSum degree.at
      | Some t ↦ before_systems (record { degree = degree; weights = t.weights }) (rest t.rest)
    ])
unfolding ReadIn TakenIn
systems_in_case size degree None rest le h k = le
systems_in_case size degree (Some taken) rest le h k = before_systems_in size (record { degree = degree; weights = taken.weights })
    (rest taken.rest) le h.0 (k taken.rest h.1)

systems_in : (size most : ℕ) (numbers : List LineNumber) → NumbersIn size numbers → ReadIn size (systems_read most numbers)
unfolding NumbersIn ReadIn SystemsIn
systems_in size most [] h = tt
systems_in size zero (degree ∷ numbers) h = tt
systems_in size (suc most) (degree ∷ numbers) h =
    systems_in_case size degree (take_weights degree.value numbers) (systems_read most) h.0 (take_in size degree.value numbers h.1)
    (systems_in size most)

-- the fault of an item
NextIn : ℕ → Next → Type 0
NextIn size Nothing = Unit {0}
NextIn size (Given item end) = Unit {0}
NextIn size (Faulty fault) = fault.at ≤ size

PlaceIn : ℕ → Option ℕ → Type 0
PlaceIn size None = Unit {0}
PlaceIn size (Some at) = at ≤ size

length_in_case : (size at : ℕ) (rest : Option ℕ) (b : Bool) → at ≤ size → PlaceIn size rest → PlaceIn size (cond b rest (Some at))
unfolding PlaceIn
length_in_case size at rest true le h = h
length_in_case size at rest false le h = le

other_length_in : (size count : ℕ) (systems : List PlacedSystem) → SystemsIn size systems → PlaceIn size (other_length count systems)
unfolding SystemsIn PlaceIn
other_length_in size count [] h = tt
other_length_in size count (system ∷ systems) h =
    length_in_case size system.degree.at (other_length count systems) (length system.weights == count) h.0
    (other_length_in size count systems h.2)

column_in_case : (size at : ℕ) (rest : Option ℕ) (b : Bool) → at ≤ size → PlaceIn size rest → PlaceIn size (cond b (Some at) rest)
unfolding PlaceIn
column_in_case size at rest true le h = le
column_in_case size at rest false le h = h

zero_column_in : (size place : ℕ) (numbers : List LineNumber) (systems : List PlacedSystem) → NumbersIn size numbers
    → PlaceIn size (zero_column place numbers systems)
unfolding NumbersIn PlaceIn
zero_column_in size place [] systems h = tt
zero_column_in size place (number ∷ numbers) systems h =
    column_in_case size number.at (zero_column (place + 1) numbers systems) (is_zero_column place systems) h.0
    (zero_column_in size (place + 1) numbers systems h.1)

summed_in_case : (size end : ℕ) (other column : Option ℕ) (item : Listed) → PlaceIn size other → PlaceIn size column
    → NextIn size (elim other as (λ _. Next) [
      | Some at ↦ Faulty (fault_at Lengths at end)
      | None ↦ elim column as (λ _. Next) [ Some at ↦ Faulty (fault_at ZeroColumn at end) | None ↦ Given item end ]
    ])
unfolding NextIn PlaceIn
summed_in_case size end (Some at) column item h k = h
summed_in_case size end None (Some at) item h k = k
summed_in_case size end None None item h k = tt

systems_item_in : (size end : ℕ) (read : SystemsRead) → ReadIn size read → NextIn size (systems_item read end)
unfolding NextIn ReadIn SystemsIn
systems_item_in size end (WrongSum at) h = h
systems_item_in size end (Summed []) h = tt
systems_item_in size end (Summed (first ∷ systems)) h =
    summed_in_case size end (other_length (length first.weights) systems) (zero_column 0 first.weights (first ∷ systems))
    (ListedWeights (map weighted_of (first ∷ systems))) (other_length_in size (length first.weights) systems h.2)
    (zero_column_in size 0 first.weights (first ∷ systems) h.1)

matrix_item_in : (text : List ℕ) (size at lines columns : ℕ) (read : MatrixRead) → at ≤ size → MatrixIn size read
    → NextIn size (matrix_item text at lines columns read)
unfolding NextIn MatrixIn
matrix_item_in text size at lines columns (AllEntries entries after) le h = tt
matrix_item_in text size at lines columns (FaultyMatrix fault) le h = h
matrix_item_in text size at lines columns MissingEntries le h = le

cases_le : (a b : ℕ) → (a ≤ b) ⊎ (b ≤ a)
cases_le a b = choose (nat_le a b) refl
  where
    choose : (c : Bool) → nat_le a b ≡ c → (a ≤ b) ⊎ (b ≤ a)
    choose true e = inl (grind (arith, nat_tests, e))
    choose false e = inr (grind (arith, nat_tests, e))

given_in : (size : ℕ) (item : Listed) (end : ℕ) (rest : Next) (b : Bool) → NextIn size rest → NextIn size (cond b (Given item end) rest)
unfolding NextIn
given_in size item end rest true h = tt
given_in size item end rest false h = h

faulty_in : (size at end : ℕ) (rest : Next) (b : Bool) → at ≤ size → NextIn size rest
    → NextIn size (cond b (Faulty (fault_at NoWeights at end)) rest)
unfolding NextIn
faulty_in size at end rest true le h = le
faulty_in size at end rest false le h = h

numbers_in : (text : List ℕ) (end : ℕ) (numbers : List LineNumber) → NumbersIn (length text) numbers
    → NextIn (length text) (numbers_item text end numbers)
unfolding NumbersIn NextIn
numbers_in text end [] h = tt
numbers_in text end (only ∷ []) h = h.0
numbers_in text end (lines ∷ columns ∷ []) h =
    given_in (length text) (ListedPoints lines.value columns.value []) end _ (lines.value * columns.value == 0)
    (matrix_item_in text (length text) lines.at lines.value columns.value
    (matrix_read text (lines.value * columns.value) end (pieces_of end (drop end text))) h.0
    (matrix_in text (length text) (lines.value * columns.value) end (pieces_of end (drop end text))
    (below_behind text end (cases_le end (length text)))))
numbers_in text end (degree ∷ first ∷ second ∷ more) h =
    faulty_in (length text) degree.at end _ (degree.value == 0) h.0
    (systems_item_in (length text) end (systems_read (length (degree ∷ first ∷ second ∷ more)) (degree ∷ first ∷ second ∷ more))
    (systems_in (length text) (length (degree ∷ first ∷ second ∷ more)) (degree ∷ first ∷ second ∷ more) h))

line_item_in : (text : List ℕ) (end : ℕ) (read : LineRead) → LineIn (length text) read → NextIn (length text) (line_item text end read)
unfolding LineIn NextIn
line_item_in text end (FaultyLine fault) h = h
line_item_in text end (LeadingNumbers numbers) h = numbers_in text end numbers h

pieces_in : (text : List ℕ) (pieces : List Piece) → Below (length text) pieces → NextIn (length text) (pieces_item text pieces)
unfolding Below NextIn
pieces_in text [] h = tt
pieces_in text (Token token ∷ pieces) h =
    line_item_in text (first_line_end (length text) pieces) (line_read text true (Token token ∷ pieces))
    (line_in text (length text) true (Token token ∷ pieces) h)
pieces_in text (Wrong at ∷ pieces) h =
    line_item_in text (first_line_end (length text) pieces) (line_read text true (Wrong at ∷ pieces))
    (line_in text (length text) true (Wrong at ∷ pieces) h)
pieces_in text (LineEnd at ∷ pieces) h = pieces_in text pieces h.1

-- the place of the fault of a text stands in it
pub fault_place : (text : List ℕ) (fault : ItemFault) → next_of text ≡ Faulty fault → fault.at ≤ length text
unfolding NextIn
fault_place text fault e = subst (NextIn (length text)) e (pieces_in text (pieces_of 0 text) (below (length text) 0 text (omega arith)))
