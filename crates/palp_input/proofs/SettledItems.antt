-- The first item of a text is settled by a beginning of the text in which it ends.
use Rattle.std.proofs.Common.{◌≡◌, ℕ, ◌+◌, ◌-◌, ◌*◌, ◌<◌, ◌≤◌, ℤ, Bool, true, false, cond, List, [], ◌∷◌, ◌++◌, map, length, drop, slice_range, Option, Some, None, refl, sym, ap, subst, ◌∙◌, arith, length-drop, length-append}
use Rattle.std.specs.Prelude.{◌==◌}
use Rattle.std.proofs.lemmas.List.{drop-append-le}
use Rattle.palp_input.specs.Pieces.{first_line_end, pieces_of, line_len, line_feed}
use Rattle.palp_input.specs.Numerals.{numeral_of}
use Rattle.palp_input.specs.declared.numerals.Numeral.{Numeral}
use Rattle.palp_input.specs.declared.pieces.Span.{Span}
use Rattle.palp_input.specs.Lines.{LineRead, LeadingNumbers, FaultyLine, line_read, fault_at, MatrixRead, AllEntries, FaultyMatrix, MissingEntries, matrix_read}
use Rattle.palp_input.specs.Systems.{PlacedSystem, SystemsRead, Summed, WrongSum, systems_read, other_length, zero_column, weighted_of}
use Rattle.palp_input.specs.Grammar.{Listed, ListedPoints, ListedWeights, Next, Nothing, Given, Faulty, line_end, systems_item, matrix_item, weights_item, numbers_item, line_item, pieces_item, next_of}
use Rattle.palp_input.specs.declared.pieces.Piece.{Piece}
use Rattle.palp_input.specs.declared.pieces.Piece.TheVariants.{Token, Wrong, LineEnd}
use Rattle.palp_input.specs.declared.lines.LineNumber.{LineNumber}
use Rattle.palp_input.specs.declared.fault.TextKind.TheVariants.{Lengths, ZeroColumn, NoWeights}
use Rattle.palp_input.specs.declared.fault.ItemFault.{ItemFault}
use Rattle.palp_input.proofs.Alike.{AllFrom, none_from, more_from, Alike, alike_apart, alike_cut, alike_same, alike_pieces, all_from}
use Rattle.palp_input.proofs.SettledLines.{LineEndsAt, line_ends_before, line_ends_from, line_settled, line_fault_settled, line_fault_from, TokenFault, from_rest, from_token, from_quotient, token_fault, matrix_settled, matrix_fault_settled, matrix_fault_from, entries_from, at_most, not_below, through}

-- an item or a fault ends at a place or behind it
EndsFrom : ℕ → Next → Type 0
EndsFrom place Nothing = Unit {0}
EndsFrom place (Given item end) = place ≤ end
EndsFrom place (Faulty fault) = place ≤ fault.end

-- an item or a fault ends before a place
pub EndsBefore : ℕ → Next → Type 0
EndsBefore place Nothing = ⊥
EndsBefore place (Given item end) = end < place
EndsBefore place (Faulty fault) = fault.end < place

pub item_before : (place : ℕ) (item : Listed) (end : ℕ) → end < place → EndsBefore place (Given item end)
unfolding EndsBefore
item_before place item end h = h

pub fault_before : (place : ℕ) (fault : ItemFault) → fault.end < place → EndsBefore place (Faulty fault)
unfolding EndsBefore
fault_before place fault h = h

between : (low high : ℕ) (next : Next) → EndsFrom low next → EndsBefore high next → low < high
unfolding EndsFrom EndsBefore
between low high Nothing a b = absurd b
between low high (Given item end) a b = omega arith
between low high (Faulty fault) a b = omega arith

same_place : (a : ℕ) → a ≤ a
same_place a = omega arith

longer : (a b : ℕ) → a ≤ a + b
longer a b = omega arith

-- what the systems of a line say ends with the line
lengths_end : (all : List PlacedSystem) (end : ℕ) (other column : Option ℕ) (item : Listed)
    → EndsFrom end (elim other as (λ _. Next) [
      | Some at ↦ Faulty (fault_at Lengths at end)
      | None ↦ elim column as (λ _. Next) [ Some at ↦ Faulty (fault_at ZeroColumn at end) | None ↦ Given item end ]
    ])
unfolding EndsFrom
lengths_end all end (Some at) column item = same_place end
lengths_end all end None (Some at) item = same_place end
lengths_end all end None None item = same_place end

systems_end : (read : SystemsRead) (end : ℕ) → EndsFrom end (systems_item read end)
unfolding EndsFrom
systems_end (WrongSum at) end = same_place end
systems_end (Summed []) end = tt
systems_end (Summed (first ∷ systems)) end =
    lengths_end (first ∷ systems) end (other_length (length first.weights) systems) (zero_column 0 first.weights (first ∷ systems))
    (ListedWeights (map weighted_of (first ∷ systems)))

matrix_from : (text : List ℕ) (at lines columns place : ℕ) (read : MatrixRead) → place ≤ length text
    → ((entries : List ℤ) (after : ℕ) → read ≡ AllEntries entries after → place ≤ after)
    → ((fault : ItemFault) → read ≡ FaultyMatrix fault → place ≤ fault.end)
    → EndsFrom place (matrix_item text at lines columns read)
unfolding EndsFrom
matrix_from text at lines columns place (AllEntries entries after) most e f =
    through place after (after + line_len (drop after text)) (e entries after refl) (longer after (line_len (drop after text)))
matrix_from text at lines columns place (FaultyMatrix fault) most e f = f fault refl
matrix_from text at lines columns place MissingEntries most e f = most

weaker : (low high : ℕ) (next : Next) → low ≤ high → EndsFrom high next → EndsFrom low next
unfolding EndsFrom
weaker low high Nothing le h = tt
weaker low high (Given item end) le h = through low high end le h
weaker low high (Faulty fault) le h = through low high fault.end le h

header_from_case : (text : List ℕ) (place end : ℕ) (lines columns : LineNumber) (none : Bool) → place ≤ end
    → EndsFrom place (matrix_item text lines.at lines.value columns.value
    (matrix_read text (lines.value * columns.value) end (pieces_of end (drop end text))))
    → EndsFrom place (cond none (Given (ListedPoints lines.value columns.value []) end) (matrix_item text lines.at lines.value columns.value
    (matrix_read text (lines.value * columns.value) end (pieces_of end (drop end text)))))
unfolding EndsFrom
header_from_case text place end lines columns true le h = le
header_from_case text place end lines columns false le h = h

-- what the numbers of a line say ends with the line or behind it
numbers_from : (text : List ℕ) (place end : ℕ) (numbers : List LineNumber) → place ≤ end → place ≤ length text
    → EndsFrom place (numbers_item text end numbers)
unfolding EndsFrom
numbers_from text place end [] le most = tt
numbers_from text place end (only ∷ []) le most = le
numbers_from text place end (lines ∷ columns ∷ []) le most =
    header_from_case text place end lines columns (lines.value * columns.value == 0) le
    (matrix_from text lines.at lines.value columns.value place
    (matrix_read text (lines.value * columns.value) end (pieces_of end (drop end text))) most
    (λ entries after e. through place end after le
    (entries_from text end (lines.value * columns.value) end (pieces_of end (drop end text)) entries after (all_from end (drop end text))
    (same_place end) e))
    (λ fault e. through place end fault.end le
    (at_most end fault.end (matrix_fault_from text end (lines.value * columns.value) end (pieces_of end (drop end text)) fault
    (all_from end (drop end text)) e))))
numbers_from text place end (degree ∷ first ∷ second ∷ more) le most =
    elim (degree.value == 0) as (λ b.
    EndsFrom place (cond b (Faulty (fault_at NoWeights degree.at end)) (weights_item end (degree ∷ first ∷ second ∷ more)))) [
      | true ↦ le
      | false ↦ weaker place end (weights_item end (degree ∷ first ∷ second ∷ more)) le
          (systems_end (systems_read (length (degree ∷ first ∷ second ∷ more)) (degree ∷ first ∷ second ∷ more)) end)
    ]

-- the first line of pieces that stand from a place on ends behind it
line_from : (size place : ℕ) (ps : List Piece) → AllFrom place ps → place ≤ size → place ≤ first_line_end size ps
line_from size place [] none_from le = le
line_from size place (Token token ∷ ps) (more_from _ _ low some rest) le = line_from size place ps rest le
line_from size place (Wrong at ∷ ps) (more_from _ _ low some rest) le = line_from size place ps rest le
line_from size place (LineEnd at ∷ ps) (more_from _ _ low some rest) le = omega (arith, low)

line_item_from : (text : List ℕ) (place end : ℕ) (read : LineRead) → place ≤ end → place ≤ length text
    → ((fault : ItemFault) → read ≡ FaultyLine fault → place ≤ fault.end) → EndsFrom place (line_item text end read)
unfolding EndsFrom
line_item_from text place end (LeadingNumbers numbers) le most f = numbers_from text place end numbers le most
line_item_from text place end (FaultyLine fault) le most f = f fault refl

-- an item of pieces that stand from a place on ends behind it
item_from : (text : List ℕ) (place : ℕ) (ps : List Piece) → AllFrom place ps → place ≤ length text → EndsFrom place (pieces_item text ps)
unfolding EndsFrom
item_from text place [] none_from most = tt
item_from text place (Token token ∷ ps) (more_from _ _ low some rest) most =
    line_item_from text place (first_line_end (length text) ps) (line_read text true (Token token ∷ ps))
    (line_from (length text) place ps rest most) most
    (λ fault e. at_most place fault.end (line_fault_from text place true (Token token ∷ ps) fault (more_from (Token token) ps low some rest)
    e))
item_from text place (Wrong at ∷ ps) (more_from _ _ low some rest) most =
    line_item_from text place (first_line_end (length text) ps) (line_read text true (Wrong at ∷ ps))
    (line_from (length text) place ps rest most) most
    (λ fault e. at_most place fault.end (line_fault_from text place true (Wrong at ∷ ps) fault (more_from (Wrong at) ps low some rest) e))
item_from text place (LineEnd at ∷ ps) (more_from _ _ low some rest) most = item_from text place ps rest most

-- an item that begins with a token that is cut ends behind the place
cut_from : (text : List ℕ) (place : ℕ) (token : Span) (ps : List Piece) → AllFrom place ps → place ≤ token.end → place ≤ length text
    → EndsFrom place (pieces_item text (Token token ∷ ps))
cut_from text place token ps rest high most =
    line_item_from text place (first_line_end (length text) ps) (line_read text true (Token token ∷ ps))
    (line_from (length text) place ps rest most) most
    (λ fault e. token_from place token.at token.end _ _ (line_read text false ps) fault high
    (λ r. at_most place fault.end (line_fault_from text place false ps fault rest r))
    (token_fault true token.at token.end (slice_range text token.at token.end) (numeral_of (slice_range text token.at token.end))
    (line_read text false ps) fault e))
  where
    token_from : (place at end : ℕ) (bytes : List ℕ) (numeral : Numeral) (rest : LineRead) (fault : ItemFault) → place ≤ end
        → (rest ≡ FaultyLine fault → place ≤ fault.end) → TokenFault true at end bytes numeral rest fault → place ≤ fault.end
    token_from place at end bytes numeral rest fault high later (from_rest e) = later e
    token_from place at end bytes numeral rest fault high later (from_token e _) = subst (λ (n : ℕ). place ≤ n) (sym e) high
    token_from place at end bytes numeral rest fault high later (from_quotient e f _) = cc

-- a line that ends before the beginning does
feed_case : (feed : Bool) (here there rest : ℕ) → cond feed 1 (here + 1) < rest + 1 → (here < rest → there ≡ here)
    → cond feed 1 (there + 1) ≡ cond feed 1 (here + 1)
feed_case true here there rest lt h = refl
feed_case false here there rest lt h = let same = h (omega arith) in omega arith

feed : (first s t : List ℕ) → line_len (first ++ s) < length first → line_len (first ++ t) ≡ line_len (first ++ s)
feed [] s t lt = absurd (omega arith)
feed (byte ∷ first) s t lt = feed_case (byte == line_feed) (line_len (first ++ s)) (line_len (first ++ t)) (length first) (omega arith)
    (feed first s t)

module _ (first s t : List ℕ) where
  n_most : length first ≤ length (first ++ s)
  n_most = simp length-append (omega arith)

  after_below : (after : ℕ) → line_end (first ++ s) after < length first → after ≤ length first
  after_below after lt = omega (arith, longer after (line_len (drop after (first ++ s))))

  line_end_settled : (after : ℕ) → line_end (first ++ s) after < length first → line_end (first ++ t) after ≡ line_end (first ++ s) after
  line_end_settled after lt =
      let le = after_below after lt in
      let ds = drop-append-le after first s le in
      let dt = drop-append-le after first t le in
      let short : line_len (drop after first ++ s) < length (drop after first) =
      simp length-drop (subst (λ (xs : List ℕ). line_len xs < length first - after) ds (omega (arith, lt))) in
      ap (λ (xs : List ℕ). after + line_len xs) dt ∙ ap (λ (k : ℕ). after + k) (feed (drop after first) s t short)
      ∙ sym (ap (λ (xs : List ℕ). after + line_len xs) ds)

  pub alike_behind : (end : ℕ) → end ≤ length first
      → Alike (length first) (pieces_of end (drop end (first ++ s))) (pieces_of end (drop end (first ++ t)))
  alike_behind end le =
      rw (drop-append-le end first s le, drop-append-le end first t le)
      (alike_pieces end (length first) (drop end first) s t (simp length-drop (omega arith)))

  matrix_item_settled : (at lines columns : ℕ) (here there : MatrixRead)
      → ((entries : List ℤ) (after : ℕ) → here ≡ AllEntries entries after → after < length first → there ≡ AllEntries entries after)
      → ((fault : ItemFault) → here ≡ FaultyMatrix fault → fault.end < length first → there ≡ FaultyMatrix fault)
      → EndsBefore (length first) (matrix_item (first ++ s) at lines columns here)
      → matrix_item (first ++ t) at lines columns there ≡ matrix_item (first ++ s) at lines columns here
  unfolding EndsBefore
  matrix_item_settled at lines columns (AllEntries entries after) there e f lt =
      ap (matrix_item (first ++ t) at lines columns)
      (e entries after refl (omega (arith, lt, longer after (line_len (drop after (first ++ s))))))
      ∙ ap (Given (ListedPoints lines columns entries)) (line_end_settled after lt)
  matrix_item_settled at lines columns (FaultyMatrix fault) there e f lt = ap (matrix_item (first ++ t) at lines columns) (f fault refl lt)
  matrix_item_settled at lines columns MissingEntries there e f lt = absurd (not_below (length first) (length (first ++ s)) n_most lt)

  header_settled : (end : ℕ) (lines columns : LineNumber) (none : Bool) → end ≤ length first
      → EndsBefore (length first) (cond none (Given (ListedPoints lines.value columns.value []) end)
      (matrix_item (first ++ s) lines.at lines.value columns.value
      (matrix_read (first ++ s) (lines.value * columns.value) end (pieces_of end (drop end (first ++ s))))))
      → cond none (Given (ListedPoints lines.value columns.value []) end) (matrix_item (first ++ t) lines.at lines.value columns.value
      (matrix_read (first ++ t) (lines.value * columns.value) end (pieces_of end (drop end (first ++ t)))))
      ≡ cond none (Given (ListedPoints lines.value columns.value []) end) (matrix_item (first ++ s) lines.at lines.value columns.value
      (matrix_read (first ++ s) (lines.value * columns.value) end (pieces_of end (drop end (first ++ s)))))
  header_settled end lines columns true le h = refl
  header_settled end lines columns false le h =
      let alike = alike_behind end le in
      matrix_item_settled lines.at lines.value columns.value _ _
      (λ entries after e lt. matrix_settled first s t (lines.value * columns.value) end _ _ entries after alike lt e)
      (λ fault e lt. matrix_fault_settled first s t (lines.value * columns.value) end _ _ fault alike lt e) h

  numbers_settled : (end : ℕ) (numbers : List LineNumber) → end ≤ length first
      → EndsBefore (length first) (numbers_item (first ++ s) end numbers)
      → numbers_item (first ++ t) end numbers ≡ numbers_item (first ++ s) end numbers
  numbers_settled end [] le h = refl
  numbers_settled end (only ∷ []) le h = refl
  numbers_settled end (lines ∷ columns ∷ []) le h = header_settled end lines columns (lines.value * columns.value == 0) le h
  numbers_settled end (degree ∷ one ∷ two ∷ more) le h = refl

  -- the end of a line of pieces that are alike
  pub line_alike : (size end : ℕ) (ps qs : List Piece) → Alike (length first) ps qs → LineEndsAt end ps → end ≤ length first
      → first_line_end size qs ≡ end
  unfolding LineEndsAt
  line_alike size end ps qs (alike_apart _ _ fp fq) h le =
      absurd (not_below end (length first) le (line_ends_from (length first) end ps fp h))
  line_alike size end (Token u ∷ ps) (Token v ∷ qs) (alike_cut _ _ _ _ same low high other fp fq) h le =
      absurd (not_below end (length first) le (line_ends_from (length first) end ps fp h))
  line_alike size end (Token token ∷ ps) (_ ∷ qs) (alike_same _ _ _ some within rest) h le = line_alike size end ps qs rest h le
  line_alike size end (Wrong at ∷ ps) (_ ∷ qs) (alike_same _ _ _ some within rest) h le = line_alike size end ps qs rest h le
  line_alike size end (LineEnd at ∷ ps) (_ ∷ qs) (alike_same _ _ _ some within rest) h le = h

  -- the item of a first line, where its line ends in the beginning
  line_item_settled : (end there_end : ℕ) (here there : LineRead)
      → ((fault : ItemFault) → here ≡ FaultyLine fault → fault.end < length first → there ≡ FaultyLine fault)
      → (end < length first → (there ≡ here) × (there_end ≡ end))
      → EndsBefore (length first) (line_item (first ++ s) end here)
      → line_item (first ++ t) there_end there ≡ line_item (first ++ s) end here
  unfolding EndsBefore
  line_item_settled end there_end (FaultyLine fault) there f l h = ap (line_item (first ++ t) there_end) (f fault refl h)
  line_item_settled end there_end (LeadingNumbers numbers) there f l h =
      let lt = below_line end numbers h in
      let both = l lt in
      ap (λ (r : LineRead). line_item (first ++ t) there_end r) both.0 ∙ ap (λ (e : ℕ). numbers_item (first ++ t) e numbers) both.1
      ∙ numbers_settled end numbers (at_most end (length first) lt) h
    where
      below_line : (end : ℕ) (numbers : List LineNumber) → EndsBefore (length first) (numbers_item (first ++ s) end numbers)
          → end < length first
      below_line end numbers h =
          let no : (length first ≤ end) → ⊥ = λ le.
          not_below (length first) (length first) (same_place (length first))
          (between (length first) (length first) (numbers_item (first ++ s) end numbers)
          (numbers_from (first ++ s) (length first) end numbers le n_most) h) in
          omega (arith, no)

  no_item : (next : Next) → EndsFrom (length first) next → EndsBefore (length first) next → ⊥
  no_item next a b = not_below (length first) (length first) (same_place (length first)) (between (length first) (length first) next a b)

  -- pieces that are alike give the same item, where it ends in the beginning
  items_settled : (ps qs : List Piece) → Alike (length first) ps qs → EndsBefore (length first) (pieces_item (first ++ s) ps)
      → pieces_item (first ++ t) qs ≡ pieces_item (first ++ s) ps
  unfolding LineEndsAt
  items_settled ps qs (alike_apart _ _ fp fq) h =
      absurd (no_item (pieces_item (first ++ s) ps) (item_from (first ++ s) (length first) ps fp n_most) h)
  items_settled (Token u ∷ ps) (Token v ∷ qs) (alike_cut _ _ _ _ same low high other fp fq) h =
      absurd (no_item (pieces_item (first ++ s) (Token u ∷ ps)) (cut_from (first ++ s) (length first) u ps fp high n_most) h)
  items_settled (Token token ∷ ps) (_ ∷ qs) (alike_same _ _ _ some within rest) h =
      let alike = alike_same (Token token) ps qs some within rest in
      line_item_settled (first_line_end (length (first ++ s)) ps) (first_line_end (length (first ++ t)) qs)
      (line_read (first ++ s) true (Token token ∷ ps)) (line_read (first ++ t) true (Token token ∷ qs))
      (λ fault e lt. line_fault_settled first s t true (Token token ∷ ps) (Token token ∷ qs) fault alike lt e)
      (λ lt.
      let ends = line_ends_before (length (first ++ s)) (first_line_end (length (first ++ s)) ps) ps refl (omega (arith, lt, n_most)) in
      let le = at_most (first_line_end (length (first ++ s)) ps) (length first) lt in (
        sym (line_settled first s t (first_line_end (length (first ++ s)) ps) true (Token token ∷ ps) (Token token ∷ qs) alike ends le),
        line_alike (length (first ++ t)) (first_line_end (length (first ++ s)) ps) ps qs rest ends le,
      )) h
  items_settled (Wrong at ∷ ps) (_ ∷ qs) (alike_same _ _ _ some within rest) h =
      let alike = alike_same (Wrong at) ps qs some within rest in
      line_item_settled (first_line_end (length (first ++ s)) ps) (first_line_end (length (first ++ t)) qs)
      (line_read (first ++ s) true (Wrong at ∷ ps)) (line_read (first ++ t) true (Wrong at ∷ qs))
      (λ fault e lt. line_fault_settled first s t true (Wrong at ∷ ps) (Wrong at ∷ qs) fault alike lt e)
      (λ lt.
      let ends = line_ends_before (length (first ++ s)) (first_line_end (length (first ++ s)) ps) ps refl (omega (arith, lt, n_most)) in
      let le = at_most (first_line_end (length (first ++ s)) ps) (length first) lt in (
        sym (line_settled first s t (first_line_end (length (first ++ s)) ps) true (Wrong at ∷ ps) (Wrong at ∷ qs) alike ends le),
        line_alike (length (first ++ t)) (first_line_end (length (first ++ s)) ps) ps qs rest ends le,
      )) h
  items_settled (LineEnd at ∷ ps) (_ ∷ qs) (alike_same _ _ _ some within rest) h = items_settled ps qs rest h

  -- an item, or a fault, that ends before the beginning does
  pub next_settled : EndsBefore (length first) (next_of (first ++ s)) → next_of (first ++ t) ≡ next_of (first ++ s)
  next_settled h = items_settled (pieces_of 0 (first ++ s)) (pieces_of 0 (first ++ t))
      (alike_pieces 0 (length first) first s t (omega arith)) h

-- an item has a byte
line_some : (size : ℕ) (ps : List Piece) → 1 ≤ size → 1 ≤ first_line_end size ps
line_some size [] le = le
line_some size (Token token ∷ ps) le = line_some size ps le
line_some size (Wrong at ∷ ps) le = line_some size ps le
line_some size (LineEnd at ∷ ps) le = omega arith

some_from : (text : List ℕ) (ps : List Piece) → AllFrom 0 ps → 1 ≤ length text → EndsFrom 1 (pieces_item text ps)
unfolding EndsFrom
some_from text [] none_from most = tt
some_from text (Token token ∷ ps) (more_from _ _ low some rest) most =
    line_item_from text 1 (first_line_end (length text) ps) (line_read text true (Token token ∷ ps)) (line_some (length text) ps most) most
    (λ fault e. line_fault_from text 0 true (Token token ∷ ps) fault (more_from (Token token) ps low some rest) e)
some_from text (Wrong at ∷ ps) (more_from _ _ low some rest) most =
    line_item_from text 1 (first_line_end (length text) ps) (line_read text true (Wrong at ∷ ps)) (line_some (length text) ps most) most
    (λ fault e. line_fault_from text 0 true (Wrong at ∷ ps) fault (more_from (Wrong at) ps low some rest) e)
some_from text (LineEnd at ∷ ps) (more_from _ _ low some rest) most = some_from text ps rest most

pub item_some : (text : List ℕ) (item : Listed) (end : ℕ) → next_of text ≡ Given item end → (1 ≤ end) × (1 ≤ length text)
unfolding EndsFrom
item_some [] item end e = cc
item_some (byte ∷ bytes) item end e =
    let some : 1 ≤ length (byte ∷ bytes) = omega arith in
    (subst (EndsFrom 1) e (some_from (byte ∷ bytes) (pieces_of 0 (byte ∷ bytes)) (all_from 0 (byte ∷ bytes)) some), some)
