-- A run of bytes of a token is one piece.
use Rattle.std.proofs.Common.{◌≡◌, ◌≢◌, ℕ, zero, suc, ◌+◌, ◌<◌, ◌≤◌, ◌⊎◌, Bool, true, false, cond, List, [], ◌∷◌, length, drop, get_or, refl, sym, ap, subst, ◌∙◌, arith, eq-eqb, length-drop, inl, inr}
use Rattle.std.specs.Prelude.{◌==◌}
use Rattle.std.proofs.lemmas.Bool.{cases_eq}
use Rattle.std.proofs.lemmas.Bool.Decides.{nat_tests}
use Rattle.std.proofs.lemmas.List.{drop_more, get_or-drop}
use Rattle.palp_input.specs.Pieces.{is_blank, is_token_byte, line_feed, join_token, pieces_of}
use Rattle.palp_input.specs.declared.pieces.Piece.{Piece}
use Rattle.palp_input.specs.declared.pieces.Piece.TheVariants.{Token, Wrong, LineEnd}
use Rattle.palp_input.specs.declared.pieces.Span.{Span}

-- a token in front stands at a place or behind it
pub FirstFrom : ℕ → List Piece → Type 0
FirstFrom place [] = Unit {0}
FirstFrom place (Token token ∷ pieces) = place ≤ token.at
FirstFrom place (Wrong at ∷ pieces) = Unit {0}
FirstFrom place (LineEnd at ∷ pieces) = Unit {0}

first_weaker : (place : ℕ) (pieces : List Piece) → FirstFrom (place + 1) pieces → FirstFrom place pieces
unfolding FirstFrom
first_weaker place [] h = tt
first_weaker place (Token token ∷ pieces) h = omega arith
first_weaker place (Wrong at ∷ pieces) h = tt
first_weaker place (LineEnd at ∷ pieces) h = tt

-- a token that follows directly is lengthened, and another isn't
pub join_same : (at : ℕ) (token : Span) (pieces : List Piece) → token.at ≡ at + 1
    → join_token at (Token token ∷ pieces) ≡ Token (record { at = at; end = token.end }) ∷ pieces
join_same at token pieces e =
    ap (λ (b : Bool). cond b (Token (record { at = at; end = token.end }) ∷ pieces)
    (Token (record { at = at; end = at + 1 }) ∷ Token token ∷ pieces))
    (eq-eqb token.at (at + 1) e)

pub join_apart : (at : ℕ) (token : Span) (pieces : List Piece) → at + 2 ≤ token.at
    → join_token at (Token token ∷ pieces) ≡ Token (record { at = at; end = at + 1 }) ∷ Token token ∷ pieces
join_apart at token pieces h =
    let apart : (token.at == at + 1) ≡ false = grind (arith, nat_tests) in
    ap (λ (b : Bool). cond b (Token (record { at = at; end = token.end }) ∷ pieces)
    (Token (record { at = at; end = at + 1 }) ∷ Token token ∷ pieces)) apart

pub join_other : (at : ℕ) (pieces : List Piece) → FirstFrom (at + 2) pieces
    → join_token at pieces ≡ Token (record { at = at; end = at + 1 }) ∷ pieces
unfolding FirstFrom
join_other at [] h = refl
join_other at (Token token ∷ pieces) h = join_apart at token pieces h
join_other at (Wrong place ∷ pieces) h = refl
join_other at (LineEnd place ∷ pieces) h = refl

-- the token that a byte makes stands at its place
join_first_case : (at : ℕ) (token : Span) (pieces : List Piece) (b : Bool)
    → FirstFrom at (cond b (Token (record { at = at; end = token.end }) ∷ pieces)
    (Token (record { at = at; end = at + 1 }) ∷ Token token ∷ pieces))
unfolding FirstFrom
join_first_case at token pieces true = omega arith
join_first_case at token pieces false = omega arith

join_first : (at : ℕ) (pieces : List Piece) → FirstFrom at (join_token at pieces)
unfolding FirstFrom
join_first at [] = omega arith
join_first at (Token token ∷ pieces) = join_first_case at token pieces (token.at == at + 1)
join_first at (Wrong place ∷ pieces) = omega arith
join_first at (LineEnd place ∷ pieces) = omega arith

-- the pieces of a byte and of those behind it, by the kind of the byte
unfoldable pub step_by : Bool → Bool → Bool → ℕ → List Piece → List Piece
step_by blank feed token at pieces =
    cond blank pieces (cond feed (LineEnd at ∷ pieces) (cond token (join_token at pieces) (Wrong at ∷ pieces)))

first_step : (blank feed token : Bool) (at : ℕ) (pieces : List Piece) → FirstFrom (at + 1) pieces
    → FirstFrom at (step_by blank feed token at pieces)
unfolding FirstFrom step_by
first_step true feed token at pieces h = first_weaker at pieces h
first_step false true token at pieces h = tt
first_step false false true at pieces h = join_first at pieces
first_step false false false at pieces h = tt

pub firsts : (at : ℕ) (bytes : List ℕ) → FirstFrom at (pieces_of at bytes)
unfolding FirstFrom step_by
firsts at [] = tt
firsts at (byte ∷ bytes) =
    first_step (is_blank byte) (byte == line_feed) (is_token_byte byte) at (pieces_of (at + 1) bytes) (firsts (at + 1) bytes)

-- a byte of a token is no blank and no line end
token_step : (byte at : ℕ) (bytes : List ℕ) → is_token_byte byte ≡ true
    → pieces_of at (byte ∷ bytes) ≡ join_token at (pieces_of (at + 1) bytes)
token_step byte at bytes h =
    let blank : is_blank byte ≡ false = grind (arith, nat_tests) in
    let feed : (byte == line_feed) ≡ false = grind (arith, nat_tests) in
    step_is (is_blank byte) (byte == line_feed) (is_token_byte byte) at (pieces_of (at + 1) bytes) blank feed h
  where
    step_is : (x y z : Bool) (at : ℕ) (pieces : List Piece) → x ≡ false → y ≡ false → z ≡ true
        → cond x pieces (cond y (LineEnd at ∷ pieces) (cond z (join_token at pieces) (Wrong at ∷ pieces))) ≡ join_token at pieces
    step_is x y z at pieces a b c = rw (a, b, c) refl

-- no token begins directly behind a byte that is followed by no byte of a token
other_step : (blank feed token : Bool) (at : ℕ) (pieces : List Piece) → token ≡ false → FirstFrom (at + 1) pieces
    → FirstFrom (at + 1) (step_by blank feed token at pieces)
unfolding FirstFrom step_by
other_step true feed token at pieces e h = h
other_step false true token at pieces e h = tt
other_step false false true at pieces e h = absurd (cc e)
other_step false false false at pieces e h = tt

stops_first : (at : ℕ) (bytes : List ℕ) → (0 < length bytes → is_token_byte (get_or bytes 0 0) ≡ false)
    → FirstFrom (at + 1) (pieces_of at bytes)
unfolding FirstFrom step_by
stops_first at [] h = tt
stops_first at (byte ∷ bytes) h =
    other_step (is_blank byte) (byte == line_feed) (is_token_byte byte) at (pieces_of (at + 1) bytes) (h (omega arith))
    (firsts (at + 1) bytes)

-- a run of at least one byte of a token, which isn't followed by one
pub token_run : (text : List ℕ) (more at end : ℕ) → end ≡ at + more + 1 → end ≤ length text
    → ((k : ℕ) → at ≤ k → k < end → is_token_byte (get_or text k 0) ≡ true)
    → (end < length text → is_token_byte (get_or text end 0) ≡ false)
    → pieces_of at (drop at text) ≡ Token (record { at = at; end = end }) ∷ pieces_of end (drop end text)
token_run text zero at end e most each stop =
    let next : at + 1 ≡ end = omega arith in
    let here : is_token_byte (get_or text at 0) ≡ true = each at (omega arith) (omega arith) in
    let lt : at < length text = omega arith in
    let two : at + 1 + 1 ≡ at + 2 = omega arith in
    let stops : 0 < length (drop (at + 1) text) → is_token_byte (get_or (drop (at + 1) text) 0 0) ≡ false =
    λ some. simp get_or-drop (rest_stops text at end next some stop) in
    let first : FirstFrom (at + 2) (pieces_of (at + 1) (drop (at + 1) text)) =
    subst (λ (p : ℕ). FirstFrom p (pieces_of (at + 1) (drop (at + 1) text))) two (stops_first (at + 1) (drop (at + 1) text) stops) in
    ap (λ (bytes : List ℕ). pieces_of at bytes) (drop_more text at 0 lt)
    ∙ token_step (get_or text at 0) at (drop (at + 1) text) here
    ∙ join_other at (pieces_of (at + 1) (drop (at + 1) text)) first
    ∙ ap (λ (p : ℕ). Token (record { at = at; end = p }) ∷ pieces_of p (drop p text)) next
  where
    rest_stops : (text : List ℕ) (at end : ℕ) → at + 1 ≡ end → 0 < length (drop (at + 1) text)
        → (end < length text → is_token_byte (get_or text end 0) ≡ false) → is_token_byte (get_or text (at + 1 + 0) 0) ≡ false
    rest_stops text at end e some stop =
        let h = simp length-drop at some in
        let same : end ≡ at + 1 + 0 = omega arith in
        ap (λ (p : ℕ). is_token_byte (get_or text p 0)) (sym same) ∙ stop (omega arith)
token_run text (suc more) at end e most each stop =
    let here : is_token_byte (get_or text at 0) ≡ true = each at (omega arith) (omega arith) in
    let lt : at < length text = omega arith in
    let rest = token_run text more (at + 1) end (omega arith) most (λ k h l. each k (omega arith) l) stop in
    ap (λ (bytes : List ℕ). pieces_of at bytes) (drop_more text at 0 lt)
    ∙ token_step (get_or text at 0) at (drop (at + 1) text) here
    ∙ ap (λ (ps : List Piece). join_token at ps) rest
    ∙ join_same at (record { at = at + 1; end = end }) (pieces_of end (drop end text)) refl

-- one byte of a token in front of others
pub with_token : (text : List ℕ) (at end : ℕ) → is_token_byte (get_or text at 0) ≡ true
    → ((k : ℕ) → at + 1 ≤ k → k < end → is_token_byte (get_or text k 0) ≡ true)
    → (k : ℕ) → at ≤ k → k < end → is_token_byte (get_or text k 0) ≡ true
with_token text at end h rest k low high = here_or (cases_eq k at)
  where
    here_or : ((k ≡ at) ⊎ (k ≢ at)) → is_token_byte (get_or text k 0) ≡ true
    here_or (inl e) = ap (λ (p : ℕ). is_token_byte (get_or text p 0)) e ∙ h
    here_or (inr n) = rest k (omega arith) high
