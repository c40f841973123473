-- Where the first item begins.
use Rattle.std.proofs.Common.{◌≡◌, ℕ, ◌+◌, ◌≤◌, List, [], ◌∷◌, Bool, true, false, cond, length, drop, refl, sym, ap, ◌∙◌, arith, length-drop}
use Rattle.std.specs.Prelude.{◌==◌}
use Rattle.std.proofs.lemmas.Bool.Decides.{nat_tests}
use Rattle.palp_input.proofs.TokenRuns.{step_by}
use Rattle.palp_input.specs.Pieces.{is_blank, is_token_byte, line_feed, join_token, pieces_of, first_line_end, line_len}
use Rattle.palp_input.specs.PieceSteps.{without_line_ends}
use Rattle.palp_input.specs.Lines.{line_read}
use Rattle.palp_input.specs.Grammar.{pieces_item, line_item, line_end, next_of}
use Rattle.palp_input.specs.declared.pieces.Piece.{Piece}
use Rattle.palp_input.specs.declared.pieces.Piece.TheVariants.{Token, Wrong, LineEnd}
use Rattle.palp_input.specs.declared.pieces.Span.{Span}

-- line ends begin no item
pub pieces_item-line_ends : (text : List ℕ) (pieces : List Piece) → pieces_item text pieces ≡ pieces_item text (without_line_ends pieces)
pieces_item-line_ends text [] = refl
pieces_item-line_ends text (Token token ∷ pieces) = refl
pieces_item-line_ends text (Wrong at ∷ pieces) = refl
pieces_item-line_ends text (LineEnd at ∷ pieces) = pieces_item-line_ends text pieces

-- the line's end, by the pieces and by the bytes
join_line_end : (size at : ℕ) (pieces : List Piece) → first_line_end size (join_token at pieces) ≡ first_line_end size pieces
join_line_end size at [] = refl
join_line_end size at (Token token ∷ pieces) =
    elim (token.at == at + 1) as (λ b. first_line_end size (cond b (Token (record { at = at; end = token.end }) ∷ pieces)
    (Token (record { at = at; end = at + 1 }) ∷ Token token ∷ pieces)) ≡ first_line_end size pieces) [ true ↦ refl | false ↦ refl ]
join_line_end size at (Wrong place ∷ pieces) = refl
join_line_end size at (LineEnd place ∷ pieces) = refl

step_line_end : (blank feed token : Bool) (size at : ℕ) (pieces : List Piece) (rest : ℕ) → (blank ≡ true → feed ≡ false)
    → first_line_end size pieces ≡ at + 1 + rest → first_line_end size (step_by blank feed token at pieces) ≡ at + cond feed 1 (rest + 1)
unfolding step_by
step_line_end true true token size at pieces rest n h = let f = n refl in cc
step_line_end true false token size at pieces rest n h = h ∙ omega arith
step_line_end false true token size at pieces rest n h = refl
step_line_end false false true size at pieces rest n h = join_line_end size at pieces ∙ h ∙ omega arith
step_line_end false false false size at pieces rest n h = h ∙ omega arith

blank_no_feed : (byte : ℕ) → is_blank byte ≡ true → (byte == line_feed) ≡ false
blank_no_feed byte h = grind (arith, nat_tests)

pub line_len-pieces : (size at : ℕ) (bytes : List ℕ) → size ≡ at + length bytes
    → first_line_end size (pieces_of at bytes) ≡ at + line_len bytes
unfolding step_by
line_len-pieces size at [] e = omega (arith, e)
line_len-pieces size at (byte ∷ bytes) e =
    step_line_end (is_blank byte) (byte == line_feed) (is_token_byte byte) size at (pieces_of (at + 1) bytes) (line_len bytes)
    (blank_no_feed byte)
    (line_len-pieces size (at + 1) bytes (omega arith))

-- the line's end behind the first of the pieces from a place on
line_end_here : (text : List ℕ) (at : ℕ) (more : List Piece) (pieces : List Piece) → at ≤ length text → pieces_of at (drop at text) ≡ pieces
    → first_line_end (length text) pieces ≡ line_end text at
line_end_here text at more pieces le e =
    ap (first_line_end (length text)) (sym e) ∙ line_len-pieces (length text) at (drop at text) (simp length-drop (omega arith))

-- a token begins one
pub token_starts : (text : List ℕ) (token : Span) (more : List Piece) → token.at ≤ length text
    → without_line_ends (pieces_of 0 text) ≡ Token token ∷ more
    → pieces_of token.at (drop token.at text) ≡ Token token ∷ more
    → next_of text ≡ line_item text (line_end text token.at) (line_read text true (pieces_of token.at (drop token.at text)))
token_starts text token more le h here =
    pieces_item-line_ends text (pieces_of 0 text) ∙ ap (pieces_item text) h
    ∙ ap (λ (n : ℕ). line_item text n (line_read text true (Token token ∷ more)))
    (line_end_here text token.at more (Token token ∷ more) le here)
    ∙ ap (λ (ps : List Piece). line_item text (line_end text token.at) (line_read text true ps)) (sym here)

-- and so does a byte that no text has
pub byte_starts : (text : List ℕ) (at : ℕ) (more : List Piece) → at ≤ length text → without_line_ends (pieces_of 0 text) ≡ Wrong at ∷ more
    → pieces_of at (drop at text) ≡ Wrong at ∷ more
    → next_of text ≡ line_item text (line_end text at) (line_read text true (pieces_of at (drop at text)))
byte_starts text at more le h here =
    pieces_item-line_ends text (pieces_of 0 text) ∙ ap (pieces_item text) h
    ∙ ap (λ (n : ℕ). line_item text n (line_read text true (Wrong at ∷ more))) (line_end_here text at more (Wrong at ∷ more) le here)
    ∙ ap (λ (ps : List Piece). line_item text (line_end text at) (line_read text true ps)) (sym here)
