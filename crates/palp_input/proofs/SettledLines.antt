-- What the pieces of a line or of a matrix say is settled by a beginning of the text in which it ends.
use Rattle.std.proofs.Common.{◌≡◌, ℕ, zero, suc, ◌+◌, ◌-◌, ◌<◌, ◌≤◌, ℤ, pos, negsuc, Bool, true, false, cond, ◌&&◌, List, [], ◌∷◌, ◌++◌, length, drop, take, slice_range, refl, sym, ap, subst, ◌∙◌, arith, length-drop}
use Rattle.std.specs.Prelude.{◌==◌, eqb, nat_le, nat_lt, neg_ℤ}
use Rattle.std.specs.Char.{is_ascii_digit}
use Rattle.std.specs.Str.{all_ascii_digits}
use Rattle.std.specs.Str.Parse.{digits_value}
use lib.Pointwise.{pointwise}
use Rattle.std.specs.List.{starts_with}
use Rattle.std.proofs.lemmas.Bool.Decides.{nat_tests}
use Rattle.std.proofs.lemmas.List.{drop-append-le, take-append-le, take-take}
use lib.Chars.{codes}
use Rattle.palp_input.specs.Pieces.{first_line_end}
use Rattle.palp_input.specs.Numerals.{bound, numeral_of, numeral_of_digits}
use Rattle.palp_input.specs.Lines.{LineRead, LeadingNumbers, FaultyLine, before_line, line_read, line_token, other_token, fault_at, MatrixRead, AllEntries, FaultyMatrix, MissingEntries, before_entries, matrix_read, matrix_token}
use Rattle.palp_input.specs.declared.pieces.Piece.{Piece}
use Rattle.palp_input.specs.declared.pieces.Piece.TheVariants.{Token, Wrong, LineEnd}
use Rattle.palp_input.specs.declared.pieces.Span.{Span}
use Rattle.palp_input.specs.declared.numerals.Numeral.{Numeral}
use Rattle.palp_input.specs.declared.numerals.Numeral.TheVariants.{NoNumber, TooLarge, Number}
use Rattle.palp_input.specs.declared.lines.LineNumber.{LineNumber}
use Rattle.palp_input.specs.declared.fault.TextKind.{TextKind}
use Rattle.palp_input.specs.declared.fault.TextKind.TheVariants.{BadNumber, NumberRange, Quotient, BadByte}
use Rattle.palp_input.specs.declared.fault.ItemFault.{ItemFault}
use Rattle.palp_input.proofs.Alike.{AllFrom, none_from, more_from, Alike, alike_apart, alike_cut, alike_same}
use Rattle.std.proofs.lemmas.Bool.{and_parts}

-- the bytes of a token in the beginning of a text
slice_front : (first rest : List ℕ) (at end : ℕ) → at ≤ end → end ≤ length first
    → slice_range (first ++ rest) at end ≡ slice_range first at end
slice_front first rest at end le most =
    let within : end - at ≤ length (drop at first) = simp length-drop (omega arith) in
    ap (take (end - at)) (drop-append-le at first rest (omega arith)) ∙ take-append-le (end - at) (drop at first) rest within

-- the pieces have a line end, and its line ends at the place
unfoldable pub LineEndsAt : ℕ → List Piece → Type 0
LineEndsAt end [] = ⊥
LineEndsAt end (Token token ∷ pieces) = LineEndsAt end pieces
LineEndsAt end (Wrong at ∷ pieces) = LineEndsAt end pieces
LineEndsAt end (LineEnd at ∷ pieces) = at + 1 ≡ end

-- a line that ends before the text does has a line end
pub line_ends_before : (size end : ℕ) (pieces : List Piece) → first_line_end size pieces ≡ end → end < size → LineEndsAt end pieces
unfolding LineEndsAt
line_ends_before size end [] e lt = absurd (omega arith)
line_ends_before size end (Token token ∷ pieces) e lt = line_ends_before size end pieces e lt
line_ends_before size end (Wrong at ∷ pieces) e lt = line_ends_before size end pieces e lt
line_ends_before size end (LineEnd at ∷ pieces) e lt = e

pub line_ends_from : (place end : ℕ) (pieces : List Piece) → AllFrom place pieces → LineEndsAt end pieces → place < end
unfolding LineEndsAt
line_ends_from place end [] none_from h = absurd h
line_ends_from place end (Token token ∷ pieces) (more_from _ _ low some rest) h = line_ends_from place end pieces rest h
line_ends_from place end (Wrong at ∷ pieces) (more_from _ _ low some rest) h = line_ends_from place end pieces rest h
line_ends_from place end (LineEnd at ∷ pieces) (more_from _ _ low some rest) h = omega arith

module _ (first s t : List ℕ) where
  same_slice : (at end : ℕ) → at ≤ end → end ≤ length first → slice_range (first ++ s) at end ≡ slice_range (first ++ t) at end
  same_slice at end le most = slice_front first s at end le most ∙ sym (slice_front first t at end le most)

  -- the numbers of a line that ends in the beginning
  pub line_settled : (end : ℕ) (is_first : Bool) (ps qs : List Piece) → Alike (length first) ps qs → LineEndsAt end ps → end ≤ length first
      → line_read (first ++ s) is_first ps ≡ line_read (first ++ t) is_first qs
  unfolding LineEndsAt
  line_settled end is_first ps qs (alike_apart _ _ fp fq) h most = absurd (omega (arith, line_ends_from (length first) end ps fp h))
  line_settled end is_first (Token u ∷ ps) (Token v ∷ qs) (alike_cut _ _ _ _ same low high other fp fq) h most =
      absurd (omega (arith, line_ends_from (length first) end ps fp h))
  line_settled end is_first (Token token ∷ ps) (_ ∷ qs) (alike_same _ _ _ some within rest) h most =
      ap (λ (bytes : List ℕ). line_token is_first token.at token.end bytes (numeral_of bytes) (line_read (first ++ s) false ps))
      (same_slice token.at token.end (omega arith) within)
      ∙ ap (λ (r : LineRead). line_token is_first token.at token.end (slice_range (first ++ t) token.at token.end)
      (numeral_of (slice_range (first ++ t) token.at token.end)) r) (line_settled end false ps qs rest h most)
  line_settled end is_first (Wrong at ∷ ps) (_ ∷ qs) (alike_same _ _ _ some within rest) h most = refl
  line_settled end is_first (LineEnd at ∷ ps) (_ ∷ qs) (alike_same _ _ _ some within rest) h most = refl

-- where the fault of a line comes from: from behind a token, or from the token alone
pub data TokenFault (is_first : Bool) (at end : ℕ) (bytes : List ℕ) (number : Numeral) (rest : LineRead) (fault : ItemFault) : Type 0 where
  from_rest : rest ≡ FaultyLine fault → TokenFault is_first at end bytes number rest fault
  from_token : fault.end ≡ end → ((r : LineRead) → line_token is_first at end bytes number r ≡ FaultyLine fault)
      → TokenFault is_first at end bytes number rest fault
  from_quotient : fault ≡ fault_at Quotient at (at + 2) → is_first ≡ false → starts_with eqb bytes (codes "/Z") ≡ true
      → TokenFault is_first at end bytes number rest fault

before_fault : (number : LineNumber) (rest : LineRead) (fault : ItemFault) → before_line number rest ≡ FaultyLine fault
    → rest ≡ FaultyLine fault
before_fault number (LeadingNumbers numbers) fault e = cc
before_fault number (FaultyLine other) fault e = e

other_fault : (is_first : Bool) (at end : ℕ) (bytes : List ℕ) (rest : LineRead) (fault : ItemFault) (quotient : Bool)
    → starts_with eqb bytes (codes "/Z") ≡ quotient → other_token is_first at end bytes ≡ FaultyLine fault
    → TokenFault is_first at end bytes NoNumber rest fault
other_fault true at end bytes rest fault quotient q e =
    from_token (sym (fault_end (fault_at BadNumber at end) fault e)) (λ r. e)
  where
    fault_end : (a b : ItemFault) → FaultyLine a ≡ FaultyLine b → a.end ≡ b.end
    fault_end a b e = let same : a ≡ b = cc in ap (λ (f : ItemFault). f.end) same
other_fault false at end bytes rest fault true q e =
    from_quotient (same_fault (sym e ∙ ap (λ (b : Bool). cond b (FaultyLine (fault_at Quotient at (at + 2))) (LeadingNumbers [])) q)) refl q
  where
    same_fault : {a b : ItemFault} → FaultyLine a ≡ FaultyLine b → a ≡ b
    same_fault e = cc
other_fault false at end bytes rest fault false q e =
    let none : LeadingNumbers [] ≡ FaultyLine fault =
    sym (ap (λ (b : Bool). cond b (FaultyLine (fault_at Quotient at (at + 2))) (LeadingNumbers [])) q) ∙ e in cc

range_fault : (at end : ℕ) (fault : ItemFault) → FaultyLine (fault_at NumberRange at end) ≡ FaultyLine fault → fault.end ≡ end
range_fault at end fault e = let same : fault_at NumberRange at end ≡ fault = cc in sym (ap (λ (f : ItemFault). f.end) same)

pub token_fault : (is_first : Bool) (at end : ℕ) (bytes : List ℕ) (numeral : Numeral) (rest : LineRead) (fault : ItemFault)
    → line_token is_first at end bytes numeral rest ≡ FaultyLine fault → TokenFault is_first at end bytes numeral rest fault
token_fault is_first at end bytes NoNumber rest fault e =
    other_fault is_first at end bytes rest fault (starts_with eqb bytes (codes "/Z")) refl e
token_fault is_first at end bytes TooLarge rest fault e = from_token (range_fault at end fault e) (λ r. e)
token_fault is_first at end bytes (Number (pos value)) rest fault e =
    from_rest (before_fault (record { at = at; value = value }) rest fault e)
token_fault is_first at end bytes (Number (negsuc value)) rest fault e = from_token (range_fault at end fault e) (λ r. e)

-- a fault of pieces that stand from a place on ends behind it
end_is : (a b : ItemFault) → a ≡ b → a.end ≡ b.end
end_is a b e = ap (λ (f : ItemFault). f.end) e

behind : (place at end fault_end : ℕ) → place ≤ at → at < end → fault_end ≡ end → place < fault_end
behind place at end fault_end low some e = omega arith

behind_quotient : (place at fault_end : ℕ) → place ≤ at → fault_end ≡ at + 2 → place < fault_end
behind_quotient place at fault_end low e = omega arith

token_fault_from : (place at end : ℕ) (is_first : Bool) (bytes : List ℕ) (numeral : Numeral) (rest : LineRead) (fault : ItemFault)
    → place ≤ at → at < end → (rest ≡ FaultyLine fault → place < fault.end)
    → TokenFault is_first at end bytes numeral rest fault → place < fault.end
token_fault_from place at end is_first bytes numeral rest fault low some later (from_rest e) = later e
token_fault_from place at end is_first bytes numeral rest fault low some later (from_token e _) = behind place at end fault.end low some e
token_fault_from place at end is_first bytes numeral rest fault low some later (from_quotient e _ _) =
    behind_quotient place at fault.end low (end_is fault (fault_at Quotient at (at + 2)) e)

byte_fault : (at : ℕ) (fault : ItemFault) → FaultyLine (fault_at BadByte at (at + 1)) ≡ FaultyLine fault → fault.end ≡ at + 1
byte_fault at fault e = let same : fault_at BadByte at (at + 1) ≡ fault = cc in sym (end_is (fault_at BadByte at (at + 1)) fault same)

pub line_fault_from : (text : List ℕ) (place : ℕ) (is_first : Bool) (ps : List Piece) (fault : ItemFault) → AllFrom place ps
    → line_read text is_first ps ≡ FaultyLine fault → place < fault.end
line_fault_from text place is_first [] fault none_from e = cc
line_fault_from text place is_first (Token token ∷ ps) fault (more_from _ _ low some rest) e =
    token_fault_from place token.at token.end is_first (slice_range text token.at token.end)
    (numeral_of (slice_range text token.at token.end))
    (line_read text false ps) fault low some (line_fault_from text place false ps fault rest)
    (token_fault is_first token.at token.end (slice_range text token.at token.end) (numeral_of (slice_range text token.at token.end))
    (line_read text false ps) fault e)
line_fault_from text place is_first (Wrong at ∷ ps) fault (more_from _ _ low some rest) e =
    behind place at (at + 1) fault.end low some (byte_fault at fault e)
line_fault_from text place is_first (LineEnd at ∷ ps) fault (more_from _ _ low some rest) e = cc

-- a token that begins with `/Z` isn't a number
no_digit : (a b c : Bool) → b ≡ false → (a && (b && c)) ≡ false
no_digit true b c e = ap (λ (x : Bool). x && c) e
no_digit false b c e = refl

slash : (byte : ℕ) (bytes : List ℕ) → eqb 47 byte ≡ true → numeral_of (byte ∷ bytes) ≡ NoNumber
slash byte bytes e =
    let minus : (byte == 45) ≡ false = grind (arith, nat_tests) in
    let digit : is_ascii_digit byte ≡ false = grind (arith, nat_tests) in
    ap (λ (x : Bool). cond x (numeral_of_digits (λ n. neg_ℤ (pos n)) bytes) (numeral_of_digits pos (byte ∷ bytes))) minus
    ∙ ap (λ (x : Bool). cond x (cond (nat_lt (digits_value 10 (byte ∷ bytes)) bound) (Number (pos (digits_value 10 (byte ∷ bytes))))
    TooLarge) NoNumber)
    (no_digit (nat_le 1 (length (byte ∷ bytes))) (is_ascii_digit byte) (all_ascii_digits bytes) digit)

quotient_no_number : (bytes : List ℕ) → starts_with eqb bytes (codes "/Z") ≡ true → numeral_of bytes ≡ NoNumber
quotient_no_number [] e = refl
quotient_no_number (byte ∷ bytes) e = slash byte bytes (and_parts (eqb 47 byte) (pointwise eqb (90 ∷ []) (take 1 bytes)) e).0

-- the fault of a quotient
quotient_line : (is_first : Bool) (token : Span) (rest : LineRead) (bytes : List ℕ) → is_first ≡ false
    → starts_with eqb bytes (codes "/Z") ≡ true
    → line_token is_first token.at token.end bytes (numeral_of bytes) rest ≡ FaultyLine (fault_at Quotient token.at (token.at + 2))
quotient_line is_first token rest bytes f q =
    ap (λ (n : Numeral). line_token is_first token.at token.end bytes n rest) (quotient_no_number bytes q)
    ∙ ap (λ (b : Bool). other_token b token.at token.end bytes) f
    ∙ ap (λ (b : Bool). cond b (FaultyLine (fault_at Quotient token.at (token.at + 2))) (LeadingNumbers [])) q

-- orders of numbers
pub not_both : (a b : ℕ) → a < b → b < a → ⊥
not_both a b h k = omega arith

pub not_end : (a b c : ℕ) → a ≤ b → c ≡ b → c < a → ⊥
not_end a b c h e k = omega arith

short : (a b c : ℕ) → c ≡ b → c < a → b ≤ a
short a b c e k = omega arith

pub through : (a b c : ℕ) → a ≤ b → b ≤ c → a ≤ c
through a b c h k = omega arith

plus_two : (a : ℕ) → a ≤ a + 2
plus_two a = omega arith

-- the first two bytes of a token that is cut
slash_front : (text : List ℕ) (at end : ℕ) → at + 2 ≤ end
    → starts_with eqb (slice_range text at end) (codes "/Z") ≡ starts_with eqb (slice_range text at (at + 2)) (codes "/Z")
slash_front text at end le =
    let two : at + 2 - at ≡ 2 = omega arith in
    ap (λ (bytes : List ℕ). pointwise eqb (codes "/Z") bytes)
    (take-take 2 (end - at) (drop at text) (omega arith)
    ∙ sym (ap (λ (n : ℕ). take 2 (take n (drop at text))) two ∙ take-take 2 2 (drop at text) (omega arith)))

module _ (first s t : List ℕ) where
  -- a token that is whole in the beginning
  token_settled : (is_first : Bool) (token : Span) (ps qs : List Piece) (fault : ItemFault) → token.at ≤ token.end
      → token.end ≤ length first
      → (line_read (first ++ s) false ps ≡ FaultyLine fault → line_read (first ++ t) false qs ≡ FaultyLine fault)
      → TokenFault is_first token.at token.end (slice_range (first ++ s) token.at token.end)
      (numeral_of (slice_range (first ++ s) token.at token.end))
      (line_read (first ++ s) false ps) fault
      → line_read (first ++ s) is_first (Token token ∷ ps) ≡ FaultyLine fault
      → line_read (first ++ t) is_first (Token token ∷ qs) ≡ FaultyLine fault
  token_settled is_first token ps qs fault some within rest (from_rest e) h =
      ap (λ (bytes : List ℕ). line_token is_first token.at token.end bytes (numeral_of bytes) (line_read (first ++ t) false qs))
      (sym (same_slice first s t token.at token.end some within))
      ∙ ap (line_token is_first token.at token.end (slice_range (first ++ s) token.at token.end)
      (numeral_of (slice_range (first ++ s) token.at token.end)))
      (rest e ∙ sym e) ∙ h
  token_settled is_first token ps qs fault some within rest (from_token _ own) h =
      ap (λ (bytes : List ℕ). line_token is_first token.at token.end bytes (numeral_of bytes) (line_read (first ++ t) false qs))
      (sym (same_slice first s t token.at token.end some within))
      ∙ own (line_read (first ++ t) false qs)
  token_settled is_first token ps qs fault some within rest (from_quotient e f q) h =
      let same = same_slice first s t token.at token.end some within in
      let slash = ap (λ (bytes : List ℕ). starts_with eqb bytes (codes "/Z")) (sym same) ∙ q in
      quotient_line is_first token (line_read (first ++ t) false qs) (slice_range (first ++ t) token.at token.end) f slash
      ∙ ap FaultyLine (sym e)

  -- a token that is cut has no fault that ends in the beginning but that of a quotient
  cut_settled : (is_first : Bool) (u v : Span) (ps qs : List Piece) (fault : ItemFault) → u.at ≡ v.at → length first ≤ u.end
      → length first ≤ v.end
      → AllFrom (length first) ps → fault.end < length first
      → TokenFault is_first u.at u.end (slice_range (first ++ s) u.at u.end) (numeral_of (slice_range (first ++ s) u.at u.end))
      (line_read (first ++ s) false ps) fault
      → line_read (first ++ t) is_first (Token v ∷ qs) ≡ FaultyLine fault
  cut_settled is_first u v ps qs fault same high other fp lt (from_rest e) =
      absurd (not_both (length first) fault.end (line_fault_from (first ++ s) (length first) false ps fault fp e) lt)
  cut_settled is_first u v ps qs fault same high other fp lt (from_token e _) = absurd (not_end (length first) u.end fault.end high e lt)
  cut_settled is_first u v ps qs fault same high other fp lt (from_quotient e f q) =
      let end = end_is fault (fault_at Quotient u.at (u.at + 2)) e in
      let le : u.at + 2 ≤ length first = short (length first) (u.at + 2) fault.end end lt in
      let slash = ap (λ (n : ℕ). starts_with eqb (slice_range (first ++ t) n v.end) (codes "/Z")) (sym same)
      ∙ slash_front (first ++ t) u.at v.end (through (u.at + 2) (length first) v.end le other)
      ∙ ap (λ (bytes : List ℕ). starts_with eqb bytes (codes "/Z")) (sym (same_slice first s t u.at (u.at + 2) (plus_two u.at) le))
      ∙ sym (slash_front (first ++ s) u.at u.end (through (u.at + 2) (length first) u.end le high)) ∙ q in
      quotient_line is_first v (line_read (first ++ t) false qs) (slice_range (first ++ t) v.at v.end) f slash
      ∙ ap (λ (n : ℕ). FaultyLine (fault_at Quotient n (n + 2))) (sym same) ∙ ap FaultyLine (sym e)

  -- a fault that ends in the beginning
  pub line_fault_settled : (is_first : Bool) (ps qs : List Piece) (fault : ItemFault) → Alike (length first) ps qs
      → fault.end < length first
      → line_read (first ++ s) is_first ps ≡ FaultyLine fault → line_read (first ++ t) is_first qs ≡ FaultyLine fault
  line_fault_settled is_first ps qs fault (alike_apart _ _ fp fq) lt e =
      let from = line_fault_from (first ++ s) (length first) is_first ps fault fp e in absurd (omega (arith, from, lt))
  line_fault_settled is_first (Token u ∷ ps) (Token v ∷ qs) fault (alike_cut _ _ _ _ same low high other fp fq) lt e =
      cut_settled is_first u v ps qs fault same high other fp lt
      (token_fault is_first u.at u.end (slice_range (first ++ s) u.at u.end) (numeral_of (slice_range (first ++ s) u.at u.end))
      (line_read (first ++ s) false ps) fault e)
  line_fault_settled is_first (Token token ∷ ps) (_ ∷ qs) fault (alike_same _ _ _ some within rest) lt e =
      token_settled is_first token ps qs fault (below token.at token.end some) within (line_fault_settled false ps qs fault rest lt)
      (token_fault is_first token.at token.end (slice_range (first ++ s) token.at token.end)
      (numeral_of (slice_range (first ++ s) token.at token.end))
      (line_read (first ++ s) false ps) fault e) e
    where
      below : (a b : ℕ) → a < b → a ≤ b
      below a b h = omega arith
  line_fault_settled is_first (Wrong at ∷ ps) (_ ∷ qs) fault (alike_same _ _ _ some within rest) lt e = e
  line_fault_settled is_first (LineEnd at ∷ ps) (_ ∷ qs) fault (alike_same _ _ _ some within rest) lt e = cc

-- an entry in front of the others, and a fault, and what is missing
pub record Inverted (rest : MatrixRead) (after : ℕ) : Type 0 where
  pub entries : List ℤ
  pub is : rest ≡ AllEntries entries after

before_inverted : (entry : ℤ) (rest : MatrixRead) (entries : List ℤ) (after : ℕ) → before_entries entry rest ≡ AllEntries entries after
    → Inverted rest after
before_inverted entry (AllEntries more place) entries after e = record { entries = more; is = places more place entries after e }
  where
    places : (more : List ℤ) (place : ℕ) (entries : List ℤ) (after : ℕ) → AllEntries (entry ∷ more) place ≡ AllEntries entries after
        → AllEntries more place ≡ AllEntries more after
    places more place entries after e = cc
before_inverted entry (FaultyMatrix fault) entries after e = cc
before_inverted entry MissingEntries entries after e = cc

pub token_inverted : (at end : ℕ) (numeral : Numeral) (rest : MatrixRead) (entries : List ℤ) (after : ℕ)
    → matrix_token at end numeral rest ≡ AllEntries entries after → Inverted rest after
token_inverted at end NoNumber rest entries after e = cc
token_inverted at end TooLarge rest entries after e = cc
token_inverted at end (Number value) rest entries after e = before_inverted value rest entries after e

-- where the fault of a matrix comes from
data EntryFault (at end : ℕ) (numeral : Numeral) (rest : MatrixRead) (fault : ItemFault) : Type 0 where
  entry_rest : rest ≡ FaultyMatrix fault → EntryFault at end numeral rest fault
  entry_own : fault.end ≡ end → ((r : MatrixRead) → matrix_token at end numeral r ≡ FaultyMatrix fault)
      → EntryFault at end numeral rest fault

before_entry_fault : (entry : ℤ) (rest : MatrixRead) (fault : ItemFault) → before_entries entry rest ≡ FaultyMatrix fault
    → rest ≡ FaultyMatrix fault
before_entry_fault entry (AllEntries more place) fault e = cc
before_entry_fault entry (FaultyMatrix other) fault e = e
before_entry_fault entry MissingEntries fault e = cc

matrix_end : (kind : TextKind) (at end : ℕ) (fault : ItemFault) → FaultyMatrix (fault_at kind at end) ≡ FaultyMatrix fault → fault.end ≡ end
matrix_end kind at end fault e = let same : fault_at kind at end ≡ fault = cc in sym (end_is (fault_at kind at end) fault same)

entry_fault : (at end : ℕ) (numeral : Numeral) (rest : MatrixRead) (fault : ItemFault)
    → matrix_token at end numeral rest ≡ FaultyMatrix fault
    → EntryFault at end numeral rest fault
entry_fault at end NoNumber rest fault e = entry_own (matrix_end BadNumber at end fault e) (λ r. e)
entry_fault at end TooLarge rest fault e = entry_own (matrix_end NumberRange at end fault e) (λ r. e)
entry_fault at end (Number value) rest fault e = entry_rest (before_entry_fault value rest fault e)

-- entries of pieces that stand from a place on end behind it, and so do faults
none_left : (text : List ℕ) (after : ℕ) (ps : List Piece) (entries : List ℤ) (end : ℕ)
    → matrix_read text 0 after ps ≡ AllEntries entries end → after ≡ end
none_left text after ps entries end e = cc

pub at_most : (a b : ℕ) → a < b → a ≤ b
at_most a b h = omega arith

pub entries_from : (text : List ℕ) (place count after : ℕ) (ps : List Piece) (entries : List ℤ) (end : ℕ) → AllFrom place ps → place ≤ after
    → matrix_read text count after ps ≡ AllEntries entries end → place ≤ end
entries_from text place zero after ps entries end f le e = let same = none_left text after ps entries end e in
    subst (λ (n : ℕ). place ≤ n) same le
entries_from text place (suc count) after [] entries end none_from le e = cc
entries_from text place (suc count) after (Token token ∷ ps) entries end (more_from _ _ low some rest) le e =
    let inverted = token_inverted token.at token.end (numeral_of (slice_range text token.at token.end))
    (matrix_read text count token.end ps) entries end e in
    entries_from text place count token.end ps inverted.entries end rest
    (at_most place token.end (behind place token.at token.end token.end low some refl)) inverted.is
entries_from text place (suc count) after (Wrong at ∷ ps) entries end (more_from _ _ low some rest) le e = cc
entries_from text place (suc count) after (LineEnd at ∷ ps) entries end (more_from _ _ low some rest) le e =
    entries_from text place (suc count) after ps entries end rest le e

some_from : (text : List ℕ) (place count after : ℕ) (ps : List Piece) (entries : List ℤ) (end : ℕ) → AllFrom place ps
    → matrix_read text (suc count) after ps ≡ AllEntries entries end → place ≤ end
some_from text place count after [] entries end none_from e = cc
some_from text place count after (Token token ∷ ps) entries end (more_from _ _ low some rest) e =
    let inverted = token_inverted token.at token.end (numeral_of (slice_range text token.at token.end))
    (matrix_read text count token.end ps) entries end e in
    entries_from text place count token.end ps inverted.entries end rest
    (at_most place token.end (behind place token.at token.end token.end low some refl)) inverted.is
some_from text place count after (Wrong at ∷ ps) entries end (more_from _ _ low some rest) e = cc
some_from text place count after (LineEnd at ∷ ps) entries end (more_from _ _ low some rest) e =
    some_from text place count after ps entries end rest e

pub matrix_fault_from : (text : List ℕ) (place count after : ℕ) (ps : List Piece) (fault : ItemFault) → AllFrom place ps
    → matrix_read text count after ps ≡ FaultyMatrix fault → place < fault.end
matrix_fault_from text place zero after ps fault f e = cc
matrix_fault_from text place (suc count) after [] fault none_from e = cc
matrix_fault_from text place (suc count) after (Token token ∷ ps) fault (more_from _ _ low some rest) e =
    entry_from place token.at token.end (numeral_of (slice_range text token.at token.end)) (matrix_read text count token.end ps) fault low
    some
    (matrix_fault_from text place count token.end ps fault rest)
    (entry_fault token.at token.end (numeral_of (slice_range text token.at token.end)) (matrix_read text count token.end ps) fault e)
  where
    entry_from : (place at end : ℕ) (numeral : Numeral) (rest : MatrixRead) (fault : ItemFault) → place ≤ at → at < end
        → (rest ≡ FaultyMatrix fault → place < fault.end) → EntryFault at end numeral rest fault → place < fault.end
    entry_from place at end numeral rest fault low some later (entry_rest e) = later e
    entry_from place at end numeral rest fault low some later (entry_own e _) = behind place at end fault.end low some e
matrix_fault_from text place (suc count) after (Wrong at ∷ ps) fault (more_from _ _ low some rest) e =
    behind place at (at + 1) fault.end low some (matrix_end BadByte at (at + 1) fault e)
matrix_fault_from text place (suc count) after (LineEnd at ∷ ps) fault (more_from _ _ low some rest) e =
    matrix_fault_from text place (suc count) after ps fault rest e

pub not_below : (a b : ℕ) → a ≤ b → b < a → ⊥
not_below a b h k = omega arith

module _ (first s t : List ℕ) where
  entry_same : (count : ℕ) (token : Span) (ps qs : List Piece) → token.at ≤ token.end → token.end ≤ length first
      → matrix_read (first ++ s) count token.end ps ≡ matrix_read (first ++ t) count token.end qs
      → matrix_token token.at token.end (numeral_of (slice_range (first ++ s) token.at token.end))
      (matrix_read (first ++ s) count token.end ps)
      ≡ matrix_token token.at token.end (numeral_of (slice_range (first ++ t) token.at token.end))
      (matrix_read (first ++ t) count token.end qs)
  entry_same count token ps qs some within e =
      ap (λ (bytes : List ℕ). matrix_token token.at token.end (numeral_of bytes) (matrix_read (first ++ s) count token.end ps))
      (same_slice first s t token.at token.end some within)
      ∙ ap (matrix_token token.at token.end (numeral_of (slice_range (first ++ t) token.at token.end))) e

  -- entries that end in the beginning
  pub matrix_settled : (count after : ℕ) (ps qs : List Piece) (entries : List ℤ) (end : ℕ) → Alike (length first) ps qs → end < length first
      → matrix_read (first ++ s) count after ps ≡ AllEntries entries end → matrix_read (first ++ t) count after qs ≡ AllEntries entries end
  matrix_settled zero after ps qs entries end alike lt e = e
  matrix_settled (suc count) after ps qs entries end (alike_apart _ _ fp fq) lt e =
      absurd (not_below (length first) end (some_from (first ++ s) (length first) count after ps entries end fp e) lt)
  matrix_settled (suc count) after (Token u ∷ ps) (Token v ∷ qs) entries end (alike_cut _ _ _ _ same low high other fp fq) lt e =
      let inverted = token_inverted u.at u.end (numeral_of (slice_range (first ++ s) u.at u.end)) (matrix_read (first ++ s) count u.end ps)
      entries end e in
      absurd (not_below (length first) end
      (entries_from (first ++ s) (length first) count u.end ps inverted.entries end fp high inverted.is) lt)
  matrix_settled (suc count) after (Token token ∷ ps) (_ ∷ qs) entries end (alike_same _ _ _ some within rest) lt e =
      let inverted = token_inverted token.at token.end (numeral_of (slice_range (first ++ s) token.at token.end))
      (matrix_read (first ++ s) count token.end ps) entries end e in
      let again = matrix_settled count token.end ps qs inverted.entries end rest lt inverted.is in
      sym (entry_same count token ps qs (at_most token.at token.end some) within (inverted.is ∙ sym again)) ∙ e
  matrix_settled (suc count) after (Wrong at ∷ ps) (_ ∷ qs) entries end (alike_same _ _ _ some within rest) lt e = cc
  matrix_settled (suc count) after (LineEnd at ∷ ps) (_ ∷ qs) entries end (alike_same _ _ _ some within rest) lt e =
      matrix_settled (suc count) after ps qs entries end rest lt e

  own_fault : (count : ℕ) (token : Span) (ps qs : List Piece) (fault : ItemFault) → token.at ≤ token.end → token.end ≤ length first
      → (matrix_read (first ++ s) count token.end ps ≡ FaultyMatrix fault
      → matrix_read (first ++ t) count token.end qs ≡ FaultyMatrix fault)
      → EntryFault token.at token.end (numeral_of (slice_range (first ++ s) token.at token.end))
      (matrix_read (first ++ s) count token.end ps) fault
      → matrix_token token.at token.end (numeral_of (slice_range (first ++ s) token.at token.end))
      (matrix_read (first ++ s) count token.end ps) ≡ FaultyMatrix fault
      → matrix_token token.at token.end (numeral_of (slice_range (first ++ t) token.at token.end))
      (matrix_read (first ++ t) count token.end qs) ≡ FaultyMatrix fault
  own_fault count token ps qs fault some within later (entry_rest r) e = sym (entry_same count token ps qs some within (r ∙ sym (later r)))
      ∙ e
  own_fault count token ps qs fault some within later (entry_own _ own) e =
      ap (λ (bytes : List ℕ). matrix_token token.at token.end (numeral_of bytes) (matrix_read (first ++ t) count token.end qs))
      (sym (same_slice first s t token.at token.end some within))
      ∙ own (matrix_read (first ++ t) count token.end qs)

  cut_entry : (count : ℕ) (u : Span) (ps : List Piece) (fault : ItemFault) → length first ≤ u.end → AllFrom (length first) ps
      → fault.end < length first
      → EntryFault u.at u.end (numeral_of (slice_range (first ++ s) u.at u.end)) (matrix_read (first ++ s) count u.end ps) fault → ⊥
  cut_entry count u ps fault high fp lt (entry_rest r) =
      not_both (length first) fault.end (matrix_fault_from (first ++ s) (length first) count u.end ps fault fp r) lt
  cut_entry count u ps fault high fp lt (entry_own e _) = not_end (length first) u.end fault.end high e lt

  -- a fault that ends in the beginning
  pub matrix_fault_settled : (count after : ℕ) (ps qs : List Piece) (fault : ItemFault) → Alike (length first) ps qs
      → fault.end < length first
      → matrix_read (first ++ s) count after ps ≡ FaultyMatrix fault → matrix_read (first ++ t) count after qs ≡ FaultyMatrix fault
  matrix_fault_settled zero after ps qs fault alike lt e = cc
  matrix_fault_settled (suc count) after ps qs fault (alike_apart _ _ fp fq) lt e =
      absurd (not_both (length first) fault.end (matrix_fault_from (first ++ s) (length first) (suc count) after ps fault fp e) lt)
  matrix_fault_settled (suc count) after (Token u ∷ ps) (Token v ∷ qs) fault (alike_cut _ _ _ _ same low high other fp fq) lt e =
      absurd (cut_entry count u ps fault high fp lt (entry_fault u.at u.end (numeral_of (slice_range (first ++ s) u.at u.end))
      (matrix_read (first ++ s) count u.end ps) fault e))
  matrix_fault_settled (suc count) after (Token token ∷ ps) (_ ∷ qs) fault (alike_same _ _ _ some within rest) lt e =
      own_fault count token ps qs fault (at_most token.at token.end some) within (matrix_fault_settled count token.end ps qs fault rest lt)
      (entry_fault token.at token.end (numeral_of (slice_range (first ++ s) token.at token.end))
      (matrix_read (first ++ s) count token.end ps) fault e) e
  matrix_fault_settled (suc count) after (Wrong at ∷ ps) (_ ∷ qs) fault (alike_same _ _ _ some within rest) lt e = e
  matrix_fault_settled (suc count) after (LineEnd at ∷ ps) (_ ∷ qs) fault (alike_same _ _ _ some within rest) lt e =
      matrix_fault_settled (suc count) after ps qs fault rest lt e
