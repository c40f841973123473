-- The first item of a text that ends with a line end stays the first one whatever bytes follow.
use Rattle.std.proofs.Common.{◌≡◌, ℕ, zero, suc, ◌+◌, ◌-◌, ◌*◌, ◌<◌, ◌≤◌, ◌⊎◌, inl, inr, ◌≢◌, ℤ, Bool, true, false, cond, List, [], ◌∷◌, ◌++◌, length, drop, refl, sym, ap, subst, ◌∙◌, arith, length-drop}
use Rattle.std.specs.Prelude.{◌==◌, slice_index, slice_range}
use Rattle.std.proofs.lemmas.Bool.{cases_eq}
use Rattle.std.proofs.Math.Seq.{drop-length}
use Rattle.std.proofs.lemmas.List.{append-nil, drop-append-le}
use Rattle.palp_input.specs.Pieces.{is_blank, is_token_byte, line_feed, join_token, pieces_of, first_line_end, line_len}
use Rattle.palp_input.specs.PieceSteps.{end_of}
use Rattle.palp_input.specs.Numerals.{numeral_of}
use Rattle.palp_input.specs.Lines.{LineRead, LeadingNumbers, FaultyLine, line_read, MatrixRead, AllEntries, FaultyMatrix, MissingEntries, matrix_read}
use Rattle.palp_input.specs.Grammar.{Listed, ListedPoints, Given, line_end, matrix_item, numbers_item, line_item, pieces_item, next_of}
use Rattle.palp_input.specs.declared.pieces.Piece.{Piece}
use Rattle.palp_input.specs.declared.pieces.Piece.TheVariants.{Token, Wrong, LineEnd}
use Rattle.palp_input.specs.declared.pieces.Span.{Span}
use Rattle.palp_input.specs.declared.lines.LineNumber.{LineNumber}
use Rattle.palp_input.proofs.TokenRuns.{step_by}
use Rattle.palp_input.proofs.Alike.{AllFrom, more_from, Alike, alike_apart, alike_cut, alike_same, alike_pieces}
use Rattle.palp_input.proofs.SettledLines.{LineEndsAt, line_settled, token_inverted, matrix_settled}
use Rattle.palp_input.proofs.SettledItems.{alike_behind, line_alike}

-- the last of the bytes is a line end
unfoldable pub EndsInFeed : List ℕ → Type 0
EndsInFeed [] = ⊥
EndsInFeed (byte ∷ []) = byte ≡ line_feed
EndsInFeed (byte ∷ next ∷ bytes) = EndsInFeed (next ∷ bytes)

pub feed_last : (bytes : List ℕ) → 1 ≤ length bytes → slice_index bytes (length bytes - 1) ≡ line_feed → EndsInFeed bytes
unfolding EndsInFeed
feed_last [] some e = absurd (omega arith)
feed_last (byte ∷ []) some e = e
feed_last (byte ∷ next ∷ bytes) some e =
    let longer : length (byte ∷ next ∷ bytes) - 1 ≡ suc (length bytes) = omega arith in
    let shorter : length bytes ≡ length (next ∷ bytes) - 1 = omega arith in
    feed_last (next ∷ bytes) (omega arith) (subst (λ (n : ℕ). slice_index (next ∷ bytes) n ≡ line_feed) shorter
    (subst (λ (n : ℕ). slice_index (byte ∷ next ∷ bytes) n ≡ line_feed) longer e))

feed_some : (bytes : List ℕ) → EndsInFeed bytes → 1 ≤ length bytes
unfolding EndsInFeed
feed_some [] h = absurd h
feed_some (byte ∷ bytes) h = omega arith

-- so is the last one of the bytes behind a place
drop_feed : (place : ℕ) (bytes : List ℕ) → EndsInFeed bytes → place < length bytes → EndsInFeed (drop place bytes)
unfolding EndsInFeed
drop_feed place [] h lt = absurd h
drop_feed zero (byte ∷ bytes) h lt = h
drop_feed (suc place) (byte ∷ []) h lt = absurd (omega arith)
drop_feed (suc place) (byte ∷ next ∷ bytes) h lt = drop_feed place (next ∷ bytes) h (omega arith)

-- the line that such bytes begin with ends in them
feed_case : (feed : Bool) (here there : ℕ) → (feed ≡ false → there ≡ here) → cond feed 1 (there + 1) ≡ cond feed 1 (here + 1)
feed_case true here there h = refl
feed_case false here there h = ap (λ (n : ℕ). n + 1) (h refl)

line_same : (bytes more : List ℕ) → EndsInFeed bytes → line_len (bytes ++ more) ≡ line_len bytes
unfolding EndsInFeed
line_same [] more h = absurd h
line_same (byte ∷ []) more h = ap (λ (n : ℕ). cond (n == line_feed) 1 (line_len more + 1)) h
    ∙ sym (ap (λ (n : ℕ). cond (n == line_feed) 1 (0 + 1)) h)
line_same (byte ∷ next ∷ bytes) more h =
    feed_case (byte == line_feed) (line_len (next ∷ bytes)) (line_len ((next ∷ bytes) ++ more)) (λ e. line_same (next ∷ bytes) more h)

-- the last piece is a line end at the place, and all others end there or before
data EndsWith (place : ℕ) : List Piece → Type 0 where
  ends_here : EndsWith place (LineEnd place ∷ [])
  ends_behind : (piece : Piece) (pieces : List Piece) → end_of piece ≤ place → EndsWith place pieces → EndsWith place (piece ∷ pieces)

join_case : (place at : ℕ) (token : Span) (pieces : List Piece) (b : Bool) → at + 1 ≤ place → token.end ≤ place → EndsWith place pieces
    → EndsWith place (cond b (Token (record { at = at; end = token.end }) ∷ pieces)
    (Token (record { at = at; end = at + 1 }) ∷ Token token ∷ pieces))
join_case place at token pieces true le high h = ends_behind (Token (record { at = at; end = token.end })) pieces high h
join_case place at token pieces false le high h =
    ends_behind (Token (record { at = at; end = at + 1 })) (Token token ∷ pieces) le (ends_behind (Token token) pieces high h)

join_ends : (place at : ℕ) (pieces : List Piece) → at + 1 ≤ place → EndsWith place pieces → EndsWith place (join_token at pieces)
join_ends place at [] le h = elim h [ ]
join_ends place at (LineEnd _ ∷ []) le ends_here = ends_behind (Token (record { at = at; end = at + 1 })) (LineEnd place ∷ []) le ends_here
join_ends place at (Token token ∷ pieces) le (ends_behind _ _ high h) = join_case place at token pieces (token.at == at + 1) le high h
join_ends place at (Wrong w ∷ pieces) le (ends_behind _ _ high h) =
    ends_behind (Token (record { at = at; end = at + 1 })) (Wrong w ∷ pieces) le (ends_behind (Wrong w) pieces high h)
join_ends place at (LineEnd w ∷ pieces) le (ends_behind _ _ high h) =
    ends_behind (Token (record { at = at; end = at + 1 })) (LineEnd w ∷ pieces) le (ends_behind (LineEnd w) pieces high h)

step_ends : (blank feed token : Bool) (place at : ℕ) (pieces : List Piece) → at + 1 ≤ place → EndsWith place pieces
    → EndsWith place (step_by blank feed token at pieces)
unfolding step_by
step_ends true feed token place at pieces le h = h
step_ends false true token place at pieces le h = ends_behind (LineEnd at) pieces le h
step_ends false false true place at pieces le h = join_ends place at pieces le h
step_ends false false false place at pieces le h = ends_behind (Wrong at) pieces le h

pieces_end : (at place : ℕ) (bytes : List ℕ) → EndsInFeed bytes → at + length bytes ≡ place + 1 → EndsWith place (pieces_of at bytes)
unfolding EndsInFeed step_by
pieces_end at place [] h e = absurd h
pieces_end at place (byte ∷ []) h e =
    let same : at ≡ place = omega arith in
    subst (λ (b : ℕ). EndsWith place (pieces_of at (b ∷ []))) (sym h)
    (subst (λ (p : ℕ). EndsWith place (LineEnd p ∷ [])) (sym same) ends_here)
pieces_end at place (byte ∷ next ∷ bytes) h e =
    step_ends (is_blank byte) (byte == line_feed) (is_token_byte byte) place at (pieces_of (at + 1) (next ∷ bytes)) (omega arith)
    (pieces_end (at + 1) place (next ∷ bytes) h (omega arith))

not_apart : (size place : ℕ) (pieces : List Piece) → place + 1 ≡ size → AllFrom size pieces → EndsWith place pieces → ⊥
not_apart size place [] e from h = elim h [ ]
not_apart size place (LineEnd _ ∷ []) e (more_from _ _ low some rest) ends_here = omega (arith, e, low)
not_apart size place (piece ∷ pieces) e (more_from _ _ low some rest) (ends_behind _ _ high h) = omega (arith, e, low, some, high)

-- the first line of such pieces has a line end
first_ends : (size place : ℕ) (pieces : List Piece) → EndsWith place pieces
    → LineEndsAt (first_line_end size pieces) pieces × (first_line_end size pieces ≤ place + 1)
unfolding LineEndsAt
first_ends size place [] h = elim h [ ]
first_ends size place (LineEnd _ ∷ []) ends_here = (refl, omega arith)
first_ends size place (Token token ∷ pieces) (ends_behind _ _ high h) = first_ends size place pieces h
first_ends size place (Wrong at ∷ pieces) (ends_behind _ _ high h) = first_ends size place pieces h
first_ends size place (LineEnd at ∷ pieces) (ends_behind _ _ high h) = (refl, omega (arith, high))

-- the last entry of a matrix of such pieces ends before the last line end
entries_end : (text : List ℕ) (count after place : ℕ) (pieces : List Piece) (entries : List ℤ) (end : ℕ) → after ≤ place
    → EndsWith place pieces
    → matrix_read text count after pieces ≡ AllEntries entries end → end ≤ place
entries_end text zero after place pieces entries end le h e = let same : after ≡ end = cc in subst (λ (n : ℕ). n ≤ place) same le
entries_end text (suc count) after place [] entries end le h e = elim h [ ]
entries_end text (suc count) after place (LineEnd _ ∷ []) entries end le ends_here e = cc
entries_end text (suc count) after place (Token token ∷ pieces) entries end le (ends_behind _ _ high h) e =
    let inverted = token_inverted token.at token.end (numeral_of (slice_range text token.at token.end))
    (matrix_read text count token.end pieces) entries end e in
    entries_end text count token.end place pieces inverted.entries end high h inverted.is
entries_end text (suc count) after place (Wrong at ∷ pieces) entries end le (ends_behind _ _ high h) e = cc
entries_end text (suc count) after place (LineEnd at ∷ pieces) entries end le (ends_behind _ _ high h) e =
    entries_end text (suc count) after place pieces entries end le h e

-- without a piece there is no entry
no_entry : (text : List ℕ) (count after : ℕ) (entries : List ℤ) (end : ℕ) → matrix_read text (suc count) after [] ≡ AllEntries entries end
    → ⊥
no_entry text count after entries end e = cc

module _ (first t : List ℕ) (feed : EndsInFeed first) where
  here_is : first ++ [] ≡ first
  here_is = append-nil first

  -- the entries that stand behind a line of the text end before its last line end
  pub last_entry : (count end : ℕ) (entries : List ℤ) (after : ℕ) → end ≤ length first
      → matrix_read (first ++ []) (suc count) end (pieces_of end (drop end (first ++ []))) ≡ AllEntries entries after → after < length first
  last_entry count end entries after le e = cases (cases_eq end (length first))
    where
      read : matrix_read first (suc count) end (pieces_of end (drop end first)) ≡ AllEntries entries after
      read = subst (λ (text : List ℕ). matrix_read text (suc count) end (pieces_of end (drop end text)) ≡ AllEntries entries after) here_is
          e

      cases : ((end ≡ length first) ⊎ (end ≢ length first)) → after < length first
      cases (inl all) = absurd (no_entry first count end entries after
          (subst (λ (bytes : List ℕ). matrix_read first (suc count) end (pieces_of end bytes) ≡ AllEntries entries after)
          (ap (λ (n : ℕ). drop n first) all ∙ drop-length first) read))
      cases (inr less) =
          let lt : end < length first = omega arith in
          let some : end + length (drop end first) ≡ (length first - 1) + 1 = simp length-drop (omega arith) in
          let last = entries_end first (suc count) end (length first - 1) (pieces_of end (drop end first)) entries after (omega arith)
          (pieces_end end (length first - 1) (drop end first) (drop_feed end first feed lt) some) read in
          omega (arith, last)

  line_end_same : (after : ℕ) → after < length first → line_end (first ++ t) after ≡ line_end (first ++ []) after
  line_end_same after lt =
      let le : after ≤ length first = omega arith in
      ap (λ (bytes : List ℕ). after + line_len bytes) (drop-append-le after first t le)
      ∙ ap (λ (n : ℕ). after + n) (line_same (drop after first) t (drop_feed after first feed lt))
      ∙ sym (ap (λ (bytes : List ℕ). after + line_len (drop after bytes)) here_is)

  matrix_given : (at lines columns : ℕ) (here there : MatrixRead) (item : Listed) (place : ℕ)
      → ((entries : List ℤ) (after : ℕ) → here ≡ AllEntries entries after
      → (there ≡ AllEntries entries after) × (line_end (first ++ t) after ≡ line_end (first ++ []) after))
      → matrix_item (first ++ []) at lines columns here ≡ Given item place
      → matrix_item (first ++ t) at lines columns there ≡ Given item place
  matrix_given at lines columns (AllEntries entries after) there item place h e =
      let both = h entries after refl in
      ap (matrix_item (first ++ t) at lines columns) both.0 ∙ ap (Given (ListedPoints lines columns entries)) both.1 ∙ e
  matrix_given at lines columns (FaultyMatrix fault) there item place h e = cc
  matrix_given at lines columns MissingEntries there item place h e = cc

  header_given : (end at lines columns count : ℕ) (none : Bool) (item : Listed) (place : ℕ) → end ≤ length first → (count == 0) ≡ none
      → cond none (Given (ListedPoints lines columns []) end)
      (matrix_item (first ++ []) at lines columns (matrix_read (first ++ []) count end (pieces_of end (drop end (first ++ [])))))
      ≡ Given item place
      → cond none (Given (ListedPoints lines columns []) end)
      (matrix_item (first ++ t) at lines columns (matrix_read (first ++ t) count end (pieces_of end (drop end (first ++ t)))))
      ≡ Given item place
  header_given end at lines columns count true item place le n e = e
  header_given end at lines columns zero false item place le n e = cc
  header_given end at lines columns (suc count) false item place le n e =
      matrix_given at lines columns _ _ item place (λ entries after read.
      let lt = last_entry count end entries after le read in (
        matrix_settled first [] t (suc count) end _ _ entries after (alike_behind first [] t end le) lt read,
        line_end_same after lt,
      )) e

  numbers_given : (end : ℕ) (numbers : List LineNumber) (item : Listed) (place : ℕ) → end ≤ length first
      → numbers_item (first ++ []) end numbers ≡ Given item place → numbers_item (first ++ t) end numbers ≡ Given item place
  numbers_given end [] item place le e = e
  numbers_given end (only ∷ []) item place le e = e
  numbers_given end (lines ∷ columns ∷ []) item place le e =
      header_given end lines.at lines.value columns.value (lines.value * columns.value) (lines.value * columns.value == 0) item place le
      refl e
  numbers_given end (degree ∷ one ∷ two ∷ more) item place le e = e

  line_given : (end : ℕ) (read : LineRead) (item : Listed) (place : ℕ) → end ≤ length first
      → line_item (first ++ []) end read ≡ Given item place → line_item (first ++ t) end read ≡ Given item place
  line_given end (FaultyLine fault) item place le e = cc
  line_given end (LeadingNumbers numbers) item place le e = numbers_given end numbers item place le e

  -- a first line whose line end stands in the text
  first_given : (head : Piece) (ps qs : List Piece) (place : ℕ) (item : Listed) (end : ℕ) → place + 1 ≡ length first
      → LineEndsAt (first_line_end (length (first ++ [])) ps) (head ∷ ps) → Alike (length first) (head ∷ ps) (head ∷ qs)
      → Alike (length first) ps qs → EndsWith place ps
      → line_item (first ++ []) (first_line_end (length (first ++ [])) ps) (line_read (first ++ []) true (head ∷ ps)) ≡ Given item end
      → line_item (first ++ t) (first_line_end (length (first ++ t)) qs) (line_read (first ++ t) true (head ∷ qs)) ≡ Given item end
  first_given head ps qs place item end all ends alike rest h e =
      let line = first_ends (length (first ++ [])) place ps h in
      let le : first_line_end (length (first ++ [])) ps ≤ length first = omega (arith, line.1) in
      ap (λ (n : ℕ). line_item (first ++ t) n (line_read (first ++ t) true (head ∷ qs)))
      (line_alike first [] t (length (first ++ t)) (first_line_end (length (first ++ [])) ps) ps qs rest line.0 le)
      ∙ ap (line_item (first ++ t) (first_line_end (length (first ++ [])) ps))
      (sym (line_settled first [] t (first_line_end (length (first ++ [])) ps) true (head ∷ ps) (head ∷ qs) alike ends le))
      ∙ line_given (first_line_end (length (first ++ [])) ps) (line_read (first ++ []) true (head ∷ ps)) item end le e

  items_given : (ps qs : List Piece) (place : ℕ) (item : Listed) (end : ℕ) → place + 1 ≡ length first → Alike (length first) ps qs
      → EndsWith place ps
      → pieces_item (first ++ []) ps ≡ Given item end → pieces_item (first ++ t) qs ≡ Given item end
  unfolding LineEndsAt
  items_given ps qs place item end all (alike_apart _ _ fp fq) h e = absurd (not_apart (length first) place ps all fp h)
  items_given (Token u ∷ ps) (Token v ∷ qs) place item end all (alike_cut _ _ _ _ same low high other fp fq) (ends_behind _ _ most h) e =
      absurd (omega (arith, most, high))
  items_given (Token token ∷ ps) (_ ∷ qs) place item end all (alike_same _ _ _ some within rest) (ends_behind _ _ most h) e =
      first_given (Token token) ps qs place item end all (first_ends (length (first ++ [])) place ps h).0
      (alike_same (Token token) ps qs some within rest) rest h e
  items_given (Wrong at ∷ ps) (_ ∷ qs) place item end all (alike_same _ _ _ some within rest) (ends_behind _ _ most h) e =
      first_given (Wrong at) ps qs place item end all (first_ends (length (first ++ [])) place ps h).0
      (alike_same (Wrong at) ps qs some within rest) rest h e
  items_given (LineEnd _ ∷ []) (_ ∷ qs) place item end all (alike_same _ _ _ some within rest) ends_here e = cc
  items_given (LineEnd at ∷ ps) (_ ∷ qs) place item end all (alike_same _ _ _ some within rest) (ends_behind _ _ most h) e =
      items_given ps qs place item end all rest h e

-- whatever bytes follow
pub whole_settled : (first more : List ℕ) → EndsInFeed first → (item : Listed) (end : ℕ) → next_of first ≡ Given item end
    → next_of (first ++ more) ≡ Given item end
whole_settled first more feed item end e =
    let same = append-nil first in
    let last : 0 + length first ≡ (length first - 1) + 1 = omega (arith, feed_some first feed) in
    items_given first more feed (pieces_of 0 (first ++ [])) (pieces_of 0 (first ++ more)) (length first - 1) item end (omega (arith, last))
    (alike_pieces 0 (length first) first [] more (omega arith))
    (subst (λ (text : List ℕ). EndsWith (length first - 1) (pieces_of 0 text)) (sym same) (pieces_end 0 (length first - 1) first feed last))
    (ap next_of same ∙ e)
