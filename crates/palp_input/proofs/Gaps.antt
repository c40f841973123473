-- Blanks and line ends begin no item, and no entry.
use Rattle.std.proofs.Common.{◌≡◌, ℕ, zero, suc, ◌+◌, ◌<◌, ◌≤◌, ◌⊎◌, inl, inr, Bool, true, false, ◌||◌, cond, List, [], ◌∷◌, ◌++◌, length, take, refl, ap, subst, ◌∙◌, arith}
use Rattle.std.specs.Prelude.{◌==◌, slice_index, slice_range}
use Rattle.std.proofs.lemmas.List.{get_or-take, length-take-le}
use Rattle.palp_input.specs.Pieces.{is_blank, is_token_byte, line_feed, join_token, pieces_of}
use Rattle.palp_input.specs.Numerals.{numeral_of}
use Rattle.palp_input.specs.declared.numerals.Numeral.{Numeral}
use Rattle.palp_input.specs.declared.numerals.Numeral.TheVariants.{NoNumber, TooLarge, Number}
use Rattle.palp_input.specs.declared.pieces.Piece.TheVariants.{Token, Wrong, LineEnd}
use Rattle.palp_input.specs.declared.pieces.Span.{Span}
use Rattle.palp_input.specs.Lines.{AllEntries, MissingEntries, matrix_read, matrix_token}
use Rattle.palp_input.specs.Grammar.{Nothing, pieces_item}
use Rattle.palp_input.specs.OpeningSteps.{AreGaps, is_gap}
use Rattle.palp_input.specs.Reading.{HasNoItem}
use Rattle.palp_input.specs.declared.pieces.Piece.{Piece}
use Rattle.palp_input.proofs.TokenRuns.{step_by}

step_nothing : (blank feed token : Bool) (text : List ℕ) (at : ℕ) (pieces : List Piece) → (blank || feed) ≡ true
    → pieces_item text pieces ≡ Nothing → pieces_item text (step_by blank feed token at pieces) ≡ Nothing
unfolding step_by
step_nothing true feed token text at pieces gap h = h
step_nothing false true token text at pieces gap h = h
step_nothing false false token text at pieces gap h = cc

gaps_nothing : (text : List ℕ) (at : ℕ) (bytes : List ℕ) → AreGaps bytes → pieces_item text (pieces_of at bytes) ≡ Nothing
unfolding step_by
gaps_nothing text at [] gaps = refl
gaps_nothing text at (byte ∷ bytes) gaps =
    step_nothing (is_blank byte) (byte == line_feed) (is_token_byte byte) text at (pieces_of (at + 1) bytes) (gaps 0 (omega arith))
    (gaps_nothing text (at + 1) bytes (λ k lt. gaps (suc k) (omega arith)))

-- so they have none
pub gaps_no_item : (text : List ℕ) → AreGaps text → HasNoItem text
gaps_no_item text gaps = λ item end e. let none = gaps_nothing text 0 text gaps in cc

-- more of them
pub gaps_longer : (text : List ℕ) (looked : ℕ) → looked ≤ length text → AreGaps (take looked text)
    → ((k : ℕ) → looked ≤ k → k < length text → is_gap (slice_index text k) ≡ true) → AreGaps text
gaps_longer text looked le first more = λ k lt. by_place k lt (below k)
  where
    below : (k : ℕ) → (k < looked) ⊎ (looked ≤ k)
    below k = grind arith

    by_place : (k : ℕ) → k < length text → (k < looked) ⊎ (looked ≤ k) → is_gap (slice_index text k) ≡ true
    by_place k lt (inl early) =
        let within : k < length (take looked text) = omega (arith, early, length-take-le looked text le) in
        subst (λ (b : ℕ). is_gap b ≡ true) (get_or-take looked text k 0 early) (first k within)
    by_place k lt (inr late) = more k late lt

-- the entries of a matrix don't hang on the place behind the number before them
after_any : (text : List ℕ) (count a b : ℕ) (pieces : List Piece)
    → matrix_read text (suc count) a pieces ≡ matrix_read text (suc count) b pieces
after_any text count a b [] = refl
after_any text count a b (Token token ∷ pieces) = refl
after_any text count a b (Wrong at ∷ pieces) = refl
after_any text count a b (LineEnd at ∷ pieces) = after_any text count a b pieces

-- a token isn't missing
token_there : (at end : ℕ) (numeral : Numeral) (after : ℕ) → matrix_token at end numeral (AllEntries [] after) ≡ MissingEntries → ⊥
token_there at end NoNumber after e = cc
token_there at end TooLarge after e = cc
token_there at end (Number value) after e = cc

join_case : (text : List ℕ) (at after : ℕ) (token : Span) (pieces : List Piece) (b : Bool)
    → matrix_read text (suc zero) after (cond b (Token (record { at = at; end = token.end }) ∷ pieces)
    (Token (record { at = at; end = at + 1 }) ∷ Token token ∷ pieces)) ≡ MissingEntries → ⊥
join_case text at after token pieces true e = token_there at token.end (numeral_of (slice_range text at token.end)) token.end e
join_case text at after token pieces false e = token_there at (at + 1) (numeral_of (slice_range text at (at + 1))) (at + 1) e

join_there : (text : List ℕ) (at after : ℕ) (pieces : List Piece) → matrix_read text (suc zero) after (join_token at pieces) ≡ MissingEntries → ⊥
join_there text at after [] e = token_there at (at + 1) (numeral_of (slice_range text at (at + 1))) (at + 1) e
join_there text at after (Token token ∷ pieces) e = join_case text at after token pieces (token.at == at + 1) e
join_there text at after (Wrong place ∷ pieces) e = token_there at (at + 1) (numeral_of (slice_range text at (at + 1))) (at + 1) e
join_there text at after (LineEnd place ∷ pieces) e = token_there at (at + 1) (numeral_of (slice_range text at (at + 1))) (at + 1) e

step_passed : (blank feed token : Bool) (text whole : List ℕ) (at count a b : ℕ) (here there rest : List Piece)
    → (matrix_read text (suc zero) zero here ≡ MissingEntries → matrix_read whole (suc count) a there ≡ matrix_read whole (suc count) b rest)
    → matrix_read text (suc zero) zero (step_by blank feed token at here) ≡ MissingEntries
    → matrix_read whole (suc count) a (step_by blank feed token at there) ≡ matrix_read whole (suc count) b rest
unfolding step_by
step_passed true feed token text whole at count a b here there rest h e = h e
step_passed false true token text whole at count a b here there rest h e = h e
step_passed false false true text whole at count a b here there rest h e = absurd (join_there text at zero here e)
step_passed false false false text whole at count a b here there rest h e = cc

-- where no entry stands in some bytes, entries are read behind them
pub gaps_passed : (text whole : List ℕ) (at : ℕ) (bytes more : List ℕ) (count a b : ℕ)
    → matrix_read text (suc zero) zero (pieces_of at bytes) ≡ MissingEntries
    → matrix_read whole (suc count) a (pieces_of at (bytes ++ more)) ≡ matrix_read whole (suc count) b (pieces_of (at + length bytes) more)
unfolding step_by
gaps_passed text whole at [] more count a b e =
    let same : at ≡ at + 0 = omega arith in
    after_any whole count a b (pieces_of at more) ∙ ap (λ (n : ℕ). matrix_read whole (suc count) b (pieces_of n more)) same
gaps_passed text whole at (byte ∷ bytes) more count a b e =
    let same : at + 1 + length bytes ≡ at + length (byte ∷ bytes) = omega arith in
    step_passed (is_blank byte) (byte == line_feed) (is_token_byte byte) text whole at count a b (pieces_of (at + 1) bytes)
    (pieces_of (at + 1) (bytes ++ more)) (pieces_of (at + length (byte ∷ bytes)) more)
    (λ none. gaps_passed text whole (at + 1) bytes more count a b none
    ∙ ap (λ (n : ℕ). matrix_read whole (suc count) b (pieces_of n more)) same) e
