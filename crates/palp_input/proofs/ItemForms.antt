-- What the items of a text are: their sums, their counts and the size of their numbers.
use Rattle.std.proofs.Common.{◌≡◌, ℕ, zero, suc, ◌+◌, ◌-◌, ◌*◌, ◌<◌, ◌≤◌, ℤ, pos, negsuc, Bool, true, false, cond, ◌&&◌, List, [], ◌∷◌, map, length, get_or, slice_range, drop, Option, Some, None, refl, sym, ap, subst, ◌∙◌, arith}
use Rattle.std.specs.Prelude.{◌==◌, eqb, nat_abs, neg_ℤ, nat_le, nat_lt}
use Rattle.std.specs.List.{AllByRecursion, starts_with}
use Rattle.std.specs.Str.Parse.{digits_value}
use Rattle.std.proofs.lemmas.Bool.Decides.{nat_tests}
use Rattle.std.proofs.lemmas.List.{length-map}
use Rattle.std.proofs.lemmas.List.Elements.{All-from_recursion}
use lib.Chars.{codes}
use Rattle.lattice_core.specs.Weights.{Weighted, total, columns_of, IsSummed, HasWeightAt}
use Rattle.palp_input.specs.Pieces.{pieces_of, first_line_end}
use Rattle.palp_input.specs.Numerals.{bound, is_digits, numeral_of_digits, numeral_of}
use Rattle.palp_input.specs.Lines.{LineRead, LeadingNumbers, FaultyLine, before_line, line_read, line_token, fault_at, MatrixRead, AllEntries, FaultyMatrix, MissingEntries, before_entries, matrix_read, matrix_token}
use Rattle.palp_input.specs.Systems.{Taken, before_taken, take_weights, PlacedSystem, SystemsRead, Summed, WrongSum, before_systems, systems_read, other_length, weight_at, is_zero_column, zero_column, weighted_of}
use Rattle.palp_input.specs.Grammar.{ListedWeights, ListedPoints, Next, Nothing, Given, Faulty, systems_item, matrix_item, weights_item, numbers_item, line_item, pieces_item}
use Rattle.palp_input.specs.Items.{HasSmallNumbers, IsItem}
use Rattle.palp_input.specs.Laws.{ItemsAreItems}
use Rattle.palp_input.specs.declared.pieces.Piece.{Piece}
use Rattle.palp_input.specs.declared.pieces.Piece.TheVariants.{Token, Wrong, LineEnd}
use Rattle.palp_input.specs.declared.numerals.Numeral.{Numeral}
use Rattle.palp_input.specs.declared.numerals.Numeral.TheVariants.{NoNumber, TooLarge, Number}
use Rattle.palp_input.specs.declared.lines.LineNumber.{LineNumber}
use Rattle.palp_input.specs.declared.fault.TextKind.TheVariants.{NoWeights, Lengths, ZeroColumn, Quotient}

-- the number of a token is small
abbrev SmallNumeral : Numeral → Type 0
SmallNumeral NoNumber = Unit {0}
SmallNumeral TooLarge = Unit {0}
SmallNumeral (Number value) = nat_abs value < bound

small_value : (sign : ℕ → ℤ) (value : ℕ) → nat_abs (sign value) ≡ value → (b : Bool) → nat_lt value bound ≡ b
    → SmallNumeral (cond b (Number (sign value)) TooLarge)
small_value sign value e false t = tt
small_value sign value e true t = let lt : value < bound = grind (arith, nat_tests, t) in subst (λ (n : ℕ). n < bound) (sym e) lt

small_digits : (sign : ℕ → ℤ) (digits : List ℕ) → ((n : ℕ) → nat_abs (sign n) ≡ n) → (b : Bool)
    → SmallNumeral (cond b (cond (nat_lt (digits_value 10 digits) bound) (Number (sign (digits_value 10 digits))) TooLarge) NoNumber)
small_digits sign digits e false = tt
small_digits sign digits e true = small_value sign (digits_value 10 digits) (e (digits_value 10 digits))
    (nat_lt (digits_value 10 digits) bound) refl

size_of_negative : (n : ℕ) → nat_abs (neg_ℤ (pos n)) ≡ n
size_of_negative zero = refl
size_of_negative (suc n) = refl

small_numeral : (bytes : List ℕ) → SmallNumeral (numeral_of bytes)
small_numeral [] = tt
small_numeral (first ∷ rest) =
    elim (first == 45) as (λ b. SmallNumeral (cond b (numeral_of_digits (λ n. neg_ℤ (pos n)) rest) (numeral_of_digits pos (first ∷ rest)))) [
      | true ↦ small_digits (λ n. neg_ℤ (pos n)) rest size_of_negative (is_digits rest)
      | false ↦ small_digits pos (first ∷ rest) (λ n. refl) (is_digits (first ∷ rest))
    ]

-- the numbers of a line are small
abbrev Small : List LineNumber → Type 0
Small numbers = AllByRecursion (λ (n : LineNumber). n.value < bound) numbers

abbrev SmallLine : LineRead → Type 0
SmallLine (LeadingNumbers numbers) = Small numbers
SmallLine (FaultyLine fault) = Unit {0}

small_before : (number : LineNumber) (rest : LineRead) → number.value < bound → SmallLine rest → SmallLine (before_line number rest)
small_before number (LeadingNumbers numbers) lt h = (lt, h)
small_before number (FaultyLine fault) lt h = tt

small_token : (first : Bool) (at end : ℕ) (bytes : List ℕ) (numeral : Numeral) (rest : LineRead) → SmallNumeral numeral → SmallLine rest
    → SmallLine (line_token first at end bytes numeral rest)
small_token true at end bytes NoNumber rest n h = tt
small_token false at end bytes NoNumber rest n h =
    elim (starts_with eqb bytes (codes "/Z")) as (λ b. SmallLine (cond b (FaultyLine (fault_at Quotient at (at + 2))) (LeadingNumbers [])))
    [ true ↦ tt | false ↦ tt ]
small_token first at end bytes TooLarge rest n h = tt
small_token first at end bytes (Number (pos value)) rest n h = small_before (record { at = at; value = value }) rest n h
small_token first at end bytes (Number (negsuc value)) rest n h = tt

small_line : (text : List ℕ) (first : Bool) (pieces : List Piece) → SmallLine (line_read text first pieces)
small_line text first [] = tt
small_line text first (Token token ∷ pieces) =
    small_token first token.at token.end (slice_range text token.at token.end) (numeral_of (slice_range text token.at token.end))
    (line_read text false pieces)
    (small_numeral (slice_range text token.at token.end)) (small_line text false pieces)
small_line text first (Wrong at ∷ pieces) = tt
small_line text first (LineEnd at ∷ pieces) = tt

-- the first number isn't 0
abbrev Positive : List LineNumber → Type 0
Positive [] = Unit {0}
Positive (number ∷ numbers) = 1 ≤ number.value

abbrev values : List LineNumber → List ℕ
values numbers = map (λ (n : LineNumber). n.value) numbers

value_count : (numbers : List LineNumber) → length (values numbers) ≡ length numbers
value_count numbers = length-map numbers (λ (n : LineNumber). n.value)

-- weights whose sum is the degree, and what begins behind them
record TakesSum (degree : ℕ) (taken : Taken) : Type 0 where
  sum : total (values taken.weights) ≡ degree
  small : Small taken.weights
  small_rest : Small taken.rest
  positive : Positive taken.rest

abbrev IsSum : ℕ → Option Taken → Type 0
IsSum degree None = Unit {0}
IsSum degree (Some taken) = TakesSum degree taken

sum_before : (degree : ℕ) (number : LineNumber) (taken : Option Taken) → number.value ≤ degree → number.value < bound
    → IsSum (degree - number.value) taken
    → IsSum degree (before_taken number taken)
sum_before degree number None le lt h = tt
sum_before degree number (Some taken) le lt h = record {
  sum = omega (arith, le, h.sum);
  small = (lt, h.small);
  small_rest = h.small_rest;
  positive = h.positive;
}

sum_case : (degree : ℕ) (number : LineNumber) (numbers : List LineNumber) (taken : Option Taken) (a b : Bool)
    → nat_le number.value degree ≡ a → (degree == 0) ≡ b
    → number.value < bound → Small numbers → IsSum (degree - number.value) taken
    → IsSum degree (cond a (before_taken number taken) (cond b (Some (record { weights = []; rest = number ∷ numbers })) None))
sum_case degree number numbers taken true b t u lt h k = sum_before degree number taken (grind (arith, nat_tests, t)) lt k
sum_case degree number numbers taken false true t u lt h k = record {
  sum = grind (arith, nat_tests, u);
  small = tt;
  small_rest = (lt, h);
  positive = grind (arith, nat_tests, t);
}
sum_case degree number numbers taken false false t u lt h k = tt

take_sum : (degree : ℕ) (numbers : List LineNumber) → Small numbers → IsSum degree (take_weights degree numbers)
take_sum degree [] h = choose (degree == 0) refl
  where
    choose : (b : Bool) → (degree == 0) ≡ b → IsSum degree (cond b (Some (record { weights = []; rest = [] })) None)
    choose true e = record { sum = grind (arith, nat_tests, e); small = tt; small_rest = tt; positive = tt }
    choose false e = tt
take_sum degree (number ∷ numbers) h =
    sum_case degree number numbers (take_weights (degree - number.value) numbers) (nat_le number.value degree)
    (degree == 0) refl refl h.0 h.1
    (take_sum (degree - number.value) numbers h.1)

-- systems whose weights sum to their degrees
record IsRight (system : PlacedSystem) : Type 0 where
  sum : total (values system.weights) ≡ system.degree.value
  positive : 1 ≤ system.degree.value
  degree_small : system.degree.value < bound
  small : Small system.weights

abbrev AreRight : SystemsRead → Type 0
AreRight (Summed systems) = AllByRecursion IsRight systems
AreRight (WrongSum at) = Unit {0}

right_before : (system : PlacedSystem) (read : SystemsRead) → IsRight system → AreRight read → AreRight (before_systems system read)
right_before system (Summed systems) r h = (r, h)
right_before system (WrongSum at) r h = tt

right_case : (degree : LineNumber) (taken : Option Taken) (rest : List LineNumber → SystemsRead) → 1 ≤ degree.value → degree.value < bound
    → IsSum degree.value taken → ((numbers : List LineNumber) → Small numbers → Positive numbers → AreRight (rest numbers))
    → AreRight (elim taken as (λ _. SystemsRead) [
      | None ↦ WrongSum degree.at
      | Some t ↦ before_systems (record { degree = degree; weights = t.weights }) (rest t.rest)
    ])
right_case degree None rest p lt h again = tt
right_case degree (Some taken) rest p lt h again =
    right_before (record { degree = degree; weights = taken.weights }) (rest taken.rest)
    (record { sum = h.sum; positive = p; degree_small = lt; small = h.small }) (again taken.rest h.small_rest h.positive)

systems_right : (most : ℕ) (numbers : List LineNumber) → Small numbers → Positive numbers → AreRight (systems_read most numbers)
systems_right most [] h p = tt
systems_right zero (degree ∷ numbers) h p = tt
systems_right (suc most) (degree ∷ numbers) h p =
    right_case degree (take_weights degree.value numbers) (systems_read most) p h.0 (take_sum degree.value numbers h.1) (systems_right most)

-- as many weights as the first system
same_length : (count : ℕ) (system : PlacedSystem) (systems : List PlacedSystem) (b : Bool) → (length system.weights == count) ≡ b
    → cond b (other_length count systems) (Some system.degree.at) ≡ None → (length system.weights ≡ count)
    × (other_length count systems ≡ None)
same_length count system systems true t h = (grind (arith, nat_tests, t), h)
same_length count system systems false t h = cc

same_lengths : (count : ℕ) (systems : List PlacedSystem) → other_length count systems ≡ None
    → AllByRecursion (λ (s : PlacedSystem). length s.weights ≡ count) systems
same_lengths count [] e = tt
same_lengths count (system ∷ systems) e =
    let both = same_length count system systems (length system.weights == count) refl e in (both.0, same_lengths count systems both.1)

-- what the systems are, one by one
summed_all : (count : ℕ) (systems : List PlacedSystem) → AllByRecursion IsRight systems
    → AllByRecursion (λ (s : PlacedSystem). length s.weights ≡ count) systems
    → AllByRecursion (IsSummed count) (map weighted_of systems)
summed_all count [] r l = tt
summed_all count (system ∷ systems) r l =
    (record { columns = value_count system.weights ∙ l.0; sum = r.0.sum; positive = r.0.positive }, summed_all count systems r.1 l.1)

small_values : (numbers : List LineNumber) → Small numbers → AllByRecursion (λ (w : ℕ). w < bound) (values numbers)
small_values [] h = tt
small_values (number ∷ numbers) h = (h.0, small_values numbers h.1)

small_all : (systems : List PlacedSystem) → AllByRecursion IsRight systems → AllByRecursion HasSmallNumbers (map weighted_of systems)
small_all [] r = tt
small_all (system ∷ systems) r = (
  record {
    degree_small = r.0.degree_small;
    weights_small = All-from_recursion (λ (w : ℕ). w < bound) (values system.weights) (small_values system.weights r.0.small);
  },
  small_all systems r.1,
)

-- a place at which not all weights are 0
weight_is : (place : ℕ) (numbers : List LineNumber) → get_or (values numbers) place 0 ≡ weight_at place numbers
weight_is place [] = refl
weight_is zero (number ∷ numbers) = refl
weight_is (suc place) (number ∷ numbers) = weight_is place numbers

record NonzeroAt (systems : List PlacedSystem) (place : ℕ) : Type 0 where
  index : ℕ
  system : PlacedSystem
  inside : index < length systems
  is : (d : Weighted) → get_or (map weighted_of systems) index d ≡ weighted_of system
  positive : 1 ≤ weight_at place system.weights

nonzero_case : (place : ℕ) (system : PlacedSystem) (systems : List PlacedSystem) (b : Bool) → (weight_at place system.weights == 0) ≡ b
    → (b && is_zero_column place systems) ≡ false → (is_zero_column place systems ≡ false → NonzeroAt systems place)
    → NonzeroAt (system ∷ systems) place
nonzero_case place system systems true t e later =
    let h = later e in
    record { index = suc h.index; system = h.system; inside = omega (arith, h.inside); is = h.is; positive = h.positive }
nonzero_case place system systems false t e later =
    record { index = 0; system = system; inside = omega arith; is = λ d. refl; positive = grind (arith, nat_tests, t) }

nonzero_at : (place : ℕ) (systems : List PlacedSystem) → is_zero_column place systems ≡ false → NonzeroAt systems place
nonzero_at place [] e = cc
nonzero_at place (system ∷ systems) e = nonzero_case place system systems (weight_at place system.weights == 0) refl e
    (nonzero_at place systems)

not_zero : (place at : ℕ) (numbers : List LineNumber) (systems : List PlacedSystem) (b : Bool) → is_zero_column place systems ≡ b
    → cond b (Some at) (zero_column (place + 1) numbers systems) ≡ None → (is_zero_column place systems ≡ false)
    × (zero_column (place + 1) numbers systems ≡ None)
not_zero place at numbers systems true t e = cc
not_zero place at numbers systems false t e = (t, e)

no_zero_column : (place k : ℕ) (numbers : List LineNumber) (systems : List PlacedSystem) → zero_column place numbers systems ≡ None
    → k < length numbers
    → is_zero_column (place + k) systems ≡ false
no_zero_column place k [] systems e lt = absurd (omega (arith, lt))
no_zero_column place zero (number ∷ numbers) systems e lt =
    let both = not_zero place number.at numbers systems (is_zero_column place systems) refl e in
    let same : place + 0 ≡ place = omega arith in
    ap (λ (n : ℕ). is_zero_column n systems) same ∙ both.0
no_zero_column place (suc k) (number ∷ numbers) systems e lt =
    let both = not_zero place number.at numbers systems (is_zero_column place systems) refl e in
    let same : place + suc k ≡ place + 1 + k = omega arith in
    ap (λ (n : ℕ). is_zero_column n systems) same ∙ no_zero_column (place + 1) k numbers systems both.1 (omega (arith, lt))

used_at : (first : PlacedSystem) (systems : List PlacedSystem) → zero_column 0 first.weights (first ∷ systems) ≡ None
    → (place : ℕ) → place < columns_of (map weighted_of (first ∷ systems)) → HasWeightAt (map weighted_of (first ∷ systems)) place
used_at first systems e place lt =
    let within : place < length first.weights = subst (λ (n : ℕ). place < n) (value_count first.weights) lt in
    let same : 0 + place ≡ place = omega arith in
    let h = nonzero_at place (first ∷ systems) (ap (λ (n : ℕ). is_zero_column n (first ∷ systems)) (sym same)
    ∙ no_zero_column 0 place first.weights (first ∷ systems) e within) in
    record {
      system = weighted_of h.system;
      member = (
        h.index,
        subst (λ (n : ℕ). h.index < n) (sym (length-map (first ∷ systems) weighted_of)) h.inside,
        h.is (weighted_of h.system),
      );
      positive = subst (λ (n : ℕ). 1 ≤ n) (sym (weight_is place h.system.weights)) h.positive;
    }

-- an item that is given
abbrev IsRightNext : Next → Type 0
IsRightNext Nothing = Unit {0}
IsRightNext (Given item end) = IsItem item
IsRightNext (Faulty fault) = Unit {0}

weights_case : (first : PlacedSystem) (systems : List PlacedSystem) (end : ℕ) (other column : Option ℕ)
    → other_length (length first.weights) systems ≡ other → zero_column 0 first.weights (first ∷ systems) ≡ column
    → AllByRecursion IsRight (first ∷ systems)
    → IsRightNext (elim other as (λ _. Next) [
      | Some at ↦ Faulty (fault_at Lengths at end)
      | None ↦ elim column as (λ _. Next) [
        | Some at ↦ Faulty (fault_at ZeroColumn at end)
        | None ↦ Given (ListedWeights (map weighted_of (first ∷ systems))) end
      ]
    ])
weights_case first systems end (Some at) column e f r = tt
weights_case first systems end None (Some at) e f r = tt
weights_case first systems end None None e f r =
    let count = columns_of (map weighted_of (first ∷ systems)) in
    let columns : length first.weights ≡ count = sym (value_count first.weights) in
    let lengths : AllByRecursion (λ (s : PlacedSystem). length s.weights ≡ count) (first ∷ systems) =
    subst (λ (n : ℕ). AllByRecursion (λ (s : PlacedSystem). length s.weights ≡ n) (first ∷ systems)) columns
    (refl, same_lengths (length first.weights) systems e) in
    record {
      well_formed = record {
        some = omega arith;
        summed = All-from_recursion (IsSummed count) (map weighted_of (first ∷ systems)) (summed_all count (first ∷ systems) r lengths);
        used = used_at first systems f;
      };
      small = All-from_recursion HasSmallNumbers (map weighted_of (first ∷ systems)) (small_all (first ∷ systems) r);
    }

systems_item_right : (read : SystemsRead) (end : ℕ) → AreRight read → IsRightNext (systems_item read end)
systems_item_right (WrongSum at) end r = tt
systems_item_right (Summed []) end r = tt
systems_item_right (Summed (first ∷ systems)) end r =
    weights_case first systems end (other_length (length first.weights) systems) (zero_column 0 first.weights (first ∷ systems)) refl refl r

-- the entries of a matrix
record IsCounted (count : ℕ) (entries : List ℤ) : Type 0 where
  counted : length entries ≡ count
  small : AllByRecursion (λ (e : ℤ). nat_abs e < bound) entries

abbrev IsRightMatrix : ℕ → MatrixRead → Type 0
IsRightMatrix count (AllEntries entries after) = IsCounted count entries
IsRightMatrix count (FaultyMatrix fault) = Unit {0}
IsRightMatrix count MissingEntries = Unit {0}

matrix_before : (count : ℕ) (entry : ℤ) (rest : MatrixRead) → nat_abs entry < bound → IsRightMatrix count rest
    → IsRightMatrix (suc count) (before_entries entry rest)
matrix_before count entry (AllEntries entries after) lt h = record { counted = omega (arith, h.counted); small = (lt, h.small) }
matrix_before count entry (FaultyMatrix fault) lt h = tt
matrix_before count entry MissingEntries lt h = tt

matrix_token_right : (count at end : ℕ) (numeral : Numeral) (rest : MatrixRead) → SmallNumeral numeral → IsRightMatrix count rest
    → IsRightMatrix (suc count) (matrix_token at end numeral rest)
matrix_token_right count at end NoNumber rest n h = tt
matrix_token_right count at end TooLarge rest n h = tt
matrix_token_right count at end (Number value) rest n h = matrix_before count value rest n h

matrix_right : (text : List ℕ) (count after : ℕ) (pieces : List Piece) → IsRightMatrix count (matrix_read text count after pieces)
matrix_right text zero after pieces = record { counted = refl; small = tt }
matrix_right text (suc count) after [] = tt
matrix_right text (suc count) after (Token token ∷ pieces) =
    matrix_token_right count token.at token.end (numeral_of (slice_range text token.at token.end)) (matrix_read text count token.end pieces)
    (small_numeral (slice_range text token.at token.end)) (matrix_right text count token.end pieces)
matrix_right text (suc count) after (Wrong at ∷ pieces) = tt
matrix_right text (suc count) after (LineEnd at ∷ pieces) = matrix_right text (suc count) after pieces

matrix_item_right : (text : List ℕ) (at lines columns : ℕ) (read : MatrixRead) → lines < bound → columns < bound
    → IsRightMatrix (lines * columns) read
    → IsRightNext (matrix_item text at lines columns read)
matrix_item_right text at lines columns (AllEntries entries after) l c h = record {
  count = h.counted;
  lines_small = l;
  columns_small = c;
  entries_small = All-from_recursion (λ (e : ℤ). nat_abs e < bound) entries h.small;
}
matrix_item_right text at lines columns (FaultyMatrix fault) l c h = tt
matrix_item_right text at lines columns MissingEntries l c h = tt

header_right : (text : List ℕ) (end : ℕ) (lines columns : LineNumber) (b : Bool) → lines.value * columns.value == 0 ≡ b
    → lines.value < bound → columns.value < bound
    → IsRightNext (cond b (Given (ListedPoints lines.value columns.value []) end) (matrix_item text lines.at lines.value columns.value
    (matrix_read text (lines.value * columns.value) end (pieces_of end (drop end text)))))
header_right text end lines columns true e l c =
    record {
      count = no_entries (lines.value * columns.value) e;
      lines_small = l;
      columns_small = c;
      entries_small = All-from_recursion (λ (e : ℤ). nat_abs e < bound) [] tt;
    }
  where
    no_entries : (count : ℕ) → (count == 0) ≡ true → 0 ≡ count
    no_entries count t = grind (arith, nat_tests, t)
header_right text end lines columns false e l c =
    matrix_item_right text lines.at lines.value columns.value
    (matrix_read text (lines.value * columns.value) end (pieces_of end (drop end text))) l c
    (matrix_right text (lines.value * columns.value) end (pieces_of end (drop end text)))

weights_right : (end : ℕ) (degree : LineNumber) (numbers : List LineNumber) (b : Bool) → (degree.value == 0) ≡ b → Small (degree ∷ numbers)
    → IsRightNext (cond b (Faulty (fault_at NoWeights degree.at end)) (weights_item end (degree ∷ numbers)))
weights_right end degree numbers true t h = tt
weights_right end degree numbers false t h =
    systems_item_right (systems_read (length (degree ∷ numbers)) (degree ∷ numbers)) end
    (systems_right (length (degree ∷ numbers)) (degree ∷ numbers) h (grind (arith, nat_tests, t)))

numbers_right : (text : List ℕ) (end : ℕ) (numbers : List LineNumber) → Small numbers → IsRightNext (numbers_item text end numbers)
numbers_right text end [] h = tt
numbers_right text end (only ∷ []) h = tt
numbers_right text end (lines ∷ columns ∷ []) h = header_right text end lines columns (lines.value * columns.value == 0) refl h.0 h.1.0
numbers_right text end (degree ∷ one ∷ two ∷ more) h = weights_right end degree (one ∷ two ∷ more) (degree.value == 0) refl h

line_item_right : (text : List ℕ) (end : ℕ) (read : LineRead) → SmallLine read → IsRightNext (line_item text end read)
line_item_right text end (FaultyLine fault) h = tt
line_item_right text end (LeadingNumbers numbers) h = numbers_right text end numbers h

pieces_right : (text : List ℕ) (pieces : List Piece) → IsRightNext (pieces_item text pieces)
pieces_right text [] = tt
pieces_right text (Token token ∷ pieces) =
    line_item_right text (first_line_end (length text) pieces) (line_read text true (Token token ∷ pieces))
    (small_line text true (Token token ∷ pieces))
pieces_right text (Wrong at ∷ pieces) =
    line_item_right text (first_line_end (length text) pieces) (line_read text true (Wrong at ∷ pieces))
    (small_line text true (Wrong at ∷ pieces))
pieces_right text (LineEnd at ∷ pieces) = pieces_right text pieces

pub items_are_items : ItemsAreItems
items_are_items text item end e = subst IsRightNext e (pieces_right text (pieces_of 0 text))
