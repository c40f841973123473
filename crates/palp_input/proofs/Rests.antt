-- The pieces behind each piece of a text are those of the bytes behind its end.
use Rattle.std.proofs.Common.{◌≡◌, ℕ, zero, suc, ◌+◌, Bool, true, false, cond, ℤ, List, [], ◌∷◌, ◌<◌, length, drop, refl, ap, ◌∙◌, arith, length-drop}
use Rattle.std.specs.Prelude.{◌==◌, slice_range}
use Rattle.std.proofs.lemmas.List.{drop_more}
use Rattle.palp_input.specs.Pieces.{is_blank, is_token_byte, line_feed, join_token, pieces_of}
use Rattle.palp_input.specs.PieceSteps.{end_of}
use Rattle.palp_input.specs.Numerals.{numeral_of}
use Rattle.palp_input.specs.declared.numerals.Numeral.{Numeral}
use Rattle.palp_input.specs.declared.numerals.Numeral.TheVariants.{NoNumber, TooLarge, Number}
use Rattle.palp_input.specs.Lines.{AllEntries, before_entries, matrix_read, matrix_token}
use Rattle.palp_input.specs.declared.pieces.Piece.{Piece}
use Rattle.palp_input.specs.declared.pieces.Piece.TheVariants.{Token, Wrong, LineEnd}
use Rattle.palp_input.specs.declared.pieces.Span.{Span}
use Rattle.palp_input.proofs.TokenRuns.{step_by}

pub data HasRests (text : List ℕ) : List Piece → Type 0 where
  no_rests : HasRests text []
  more_rests : (piece : Piece) (rest : List Piece) → rest ≡ pieces_of (end_of piece) (drop (end_of piece) text) → HasRests text rest
      → HasRests text (piece ∷ rest)

join_rests_case : (text : List ℕ) (at : ℕ) (token : Span) (pieces : List Piece) (b : Bool)
    → (Token token ∷ pieces) ≡ pieces_of (at + 1) (drop (at + 1) text) → pieces ≡ pieces_of token.end (drop token.end text)
    → HasRests text pieces
    → HasRests text (cond b (Token (record { at = at; end = token.end }) ∷ pieces)
    (Token (record { at = at; end = at + 1 }) ∷ Token token ∷ pieces))
join_rests_case text at token pieces true all rest h = more_rests (Token (record { at = at; end = token.end })) pieces rest h
join_rests_case text at token pieces false all rest h =
    more_rests (Token (record { at = at; end = at + 1 })) (Token token ∷ pieces) all (more_rests (Token token) pieces rest h)

join_rests : (text : List ℕ) (at : ℕ) (pieces : List Piece) → pieces ≡ pieces_of (at + 1) (drop (at + 1) text) → HasRests text pieces
    → HasRests text (join_token at pieces)
join_rests text at _ all no_rests = more_rests (Token (record { at = at; end = at + 1 })) [] all no_rests
join_rests text at _ all (more_rests (Token token) pieces rest h) = join_rests_case text at token pieces (token.at == at + 1) all rest h
join_rests text at _ all (more_rests (Wrong place) pieces rest h) =
    more_rests (Token (record { at = at; end = at + 1 })) (Wrong place ∷ pieces) all (more_rests (Wrong place) pieces rest h)
join_rests text at _ all (more_rests (LineEnd place) pieces rest h) =
    more_rests (Token (record { at = at; end = at + 1 })) (LineEnd place ∷ pieces) all (more_rests (LineEnd place) pieces rest h)

step_rests : (text : List ℕ) (blank feed token : Bool) (at : ℕ) (pieces : List Piece)
    → pieces ≡ pieces_of (at + 1) (drop (at + 1) text) → HasRests text pieces → HasRests text (step_by blank feed token at pieces)
unfolding step_by
step_rests text true feed token at pieces all h = h
step_rests text false true token at pieces all h = more_rests (LineEnd at) pieces all h
step_rests text false false true at pieces all h = join_rests text at pieces all h
step_rests text false false false at pieces all h = more_rests (Wrong at) pieces all h

rests_of : (text : List ℕ) (at : ℕ) (bytes : List ℕ) → bytes ≡ drop at text → HasRests text (pieces_of at bytes)
unfolding step_by
rests_of text at [] e = no_rests
rests_of text at (byte ∷ bytes) e =
    let lt : at < length text = omega (arith, ap length e, length-drop at text) in
    let first = e ∙ drop_more text at 0 lt in
    let next : bytes ≡ drop (at + 1) text = cc in
    step_rests text (is_blank byte) (byte == line_feed) (is_token_byte byte) at (pieces_of (at + 1) bytes) (ap (pieces_of (at + 1)) next)
    (rests_of text (at + 1) bytes next)

pub rests : (text : List ℕ) (at : ℕ) → HasRests text (pieces_of at (drop at text))
rests text at = rests_of text at (drop at text) refl

-- an entry that stands first
record IsEntryToken (numeral : Numeral) (token_end : ℕ) (entry : ℤ) (end : ℕ) : Type 0 where
  is_number : numeral ≡ Number entry
  same_end : token_end ≡ end

entry_token : (at token_end : ℕ) (numeral : Numeral) (entry : ℤ) (end : ℕ)
    → matrix_token at token_end numeral (AllEntries [] token_end) ≡ AllEntries (entry ∷ []) end → IsEntryToken numeral token_end entry end
entry_token at token_end NoNumber entry end e = cc
entry_token at token_end TooLarge entry end e = cc
entry_token at token_end (Number value) entry end e =
    let same : value ≡ entry = cc in
    record { is_number = ap Number same; same_end = cc }

pub entry_step : (text : List ℕ) (place : ℕ) (pieces : List Piece) (entry : ℤ) (end : ℕ) → HasRests text pieces
    → matrix_read text (suc zero) place pieces ≡ AllEntries (entry ∷ []) end → (count after : ℕ)
    → matrix_read text (suc count) after pieces ≡ before_entries entry (matrix_read text count end (pieces_of end (drop end text)))
entry_step text place _ entry end no_rests e count after = cc
entry_step text place _ entry end (more_rests (Token token) pieces rest h) e count after =
    let t = entry_token token.at token.end (numeral_of (slice_range text token.at token.end)) entry end e in
    ap (λ (n : Numeral). matrix_token token.at token.end n (matrix_read text count token.end pieces)) t.is_number
    ∙ ap (λ (ps : List Piece). before_entries entry (matrix_read text count token.end ps)) rest
    ∙ ap (λ (n : ℕ). before_entries entry (matrix_read text count n (pieces_of n (drop n text)))) t.same_end
entry_step text place _ entry end (more_rests (Wrong at) pieces rest h) e count after = cc
entry_step text place _ entry end (more_rests (LineEnd at) pieces rest h) e count after = entry_step text place pieces entry end h e count after
