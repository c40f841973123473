-- Texts that begin alike have pieces that begin alike.
use Rattle.std.proofs.Common.{◌≡◌, ◌≢◌, ℕ, ◌+◌, ◌<◌, ◌≤◌, ◌⊎◌, inl, inr, Bool, true, false, cond, List, [], ◌∷◌, ◌++◌, length, refl, sym, ap, subst, ◌∙◌, arith}
use Rattle.std.specs.Prelude.{◌==◌}
use Rattle.std.proofs.lemmas.Bool.{cases_eq}
use Rattle.palp_input.specs.Pieces.{is_blank, is_token_byte, line_feed, join_token, pieces_of}
use Rattle.palp_input.specs.PieceSteps.{end_of, place_of}
use Rattle.palp_input.specs.declared.pieces.Piece.{Piece}
use Rattle.palp_input.specs.declared.pieces.Piece.TheVariants.{Token, Wrong, LineEnd}
use Rattle.palp_input.specs.declared.pieces.Span.{Span}
use Rattle.palp_input.proofs.TokenRuns.{join_same, join_apart, step_by}

-- all pieces stand from a place on, and end behind their place
pub data AllFrom (place : ℕ) : List Piece → Type 0 where
  none_from : AllFrom place []
  more_from : (piece : Piece) (pieces : List Piece) → place ≤ place_of piece → place_of piece < end_of piece → AllFrom place pieces
      → AllFrom place (piece ∷ pieces)

-- two lists of pieces are alike up to a place: the same pieces end there or before, then a token
-- may be cut there, and then all pieces stand from the place on
pub data Alike (place : ℕ) : List Piece → List Piece → Type 0 where
  alike_apart : (ps qs : List Piece) → AllFrom place ps → AllFrom place qs → Alike place ps qs
  alike_cut : (t u : Span) (ps qs : List Piece) → t.at ≡ u.at → t.at < place → place ≤ t.end → place ≤ u.end
      → AllFrom place ps → AllFrom place qs → Alike place (Token t ∷ ps) (Token u ∷ qs)
  alike_same : (piece : Piece) (ps qs : List Piece) → place_of piece < end_of piece → end_of piece ≤ place → Alike place ps qs
      → Alike place (piece ∷ ps) (piece ∷ qs)

all_weaker : (low high : ℕ) (pieces : List Piece) → low ≤ high → AllFrom high pieces → AllFrom low pieces
all_weaker low high [] h none_from = none_from
all_weaker low high (piece ∷ pieces) h (more_from _ _ at end rest) =
    more_from piece pieces (omega arith) end (all_weaker low high pieces h rest)

-- a byte of a token in front of pieces that stand from the next place on
join_from_case : (at : ℕ) (token : Span) (pieces : List Piece) (b : Bool) → at + 1 ≤ token.at → token.at < token.end
    → AllFrom (at + 1) pieces
    → AllFrom at (cond b (Token (record { at = at; end = token.end }) ∷ pieces)
    (Token (record { at = at; end = at + 1 }) ∷ Token token ∷ pieces))
join_from_case at token pieces true low some rest =
    more_from (Token (record { at = at; end = token.end })) pieces (omega arith) (omega arith)
    (all_weaker at (at + 1) pieces (omega arith) rest)
join_from_case at token pieces false low some rest =
    more_from (Token (record { at = at; end = at + 1 })) (Token token ∷ pieces) (omega arith) (omega arith)
    (more_from (Token token) pieces (omega arith) some (all_weaker at (at + 1) pieces (omega arith) rest))

join_from : (at : ℕ) (pieces : List Piece) → AllFrom (at + 1) pieces → AllFrom at (join_token at pieces)
join_from at [] h = more_from (Token (record { at = at; end = at + 1 })) [] (omega arith) (omega arith) none_from
join_from at (Token token ∷ pieces) (more_from _ _ low some rest) = join_from_case at token pieces (token.at == at + 1) low some rest
join_from at (Wrong place ∷ pieces) h =
    more_from (Token (record { at = at; end = at + 1 })) (Wrong place ∷ pieces) (omega arith) (omega arith)
    (all_weaker at (at + 1) (Wrong place ∷ pieces) (omega arith) h)
join_from at (LineEnd place ∷ pieces) h =
    more_from (Token (record { at = at; end = at + 1 })) (LineEnd place ∷ pieces) (omega arith) (omega arith)
    (all_weaker at (at + 1) (LineEnd place ∷ pieces) (omega arith) h)

step_from : (blank feed token : Bool) (at : ℕ) (pieces : List Piece) → AllFrom (at + 1) pieces
    → AllFrom at (step_by blank feed token at pieces)
unfolding step_by
step_from true feed token at pieces h = all_weaker at (at + 1) pieces (omega arith) h
step_from false true token at pieces h =
    more_from (LineEnd at) pieces (omega arith) (omega arith) (all_weaker at (at + 1) pieces (omega arith) h)
step_from false false true at pieces h = join_from at pieces h
step_from false false false at pieces h =
    more_from (Wrong at) pieces (omega arith) (omega arith) (all_weaker at (at + 1) pieces (omega arith) h)

pub all_from : (at : ℕ) (bytes : List ℕ) → AllFrom at (pieces_of at bytes)
unfolding step_by
all_from at [] = none_from
all_from at (byte ∷ bytes) = step_from (is_blank byte) (byte == line_feed) (is_token_byte byte) at (pieces_of (at + 1) bytes)
    (all_from (at + 1) bytes)

-- what a byte of a token makes of pieces that stand from the next place on or from a later one
data Joined (at : ℕ) (pieces : List Piece) : Type 0 where
  lengthened : (token : Span) (rest : List Piece) → pieces ≡ Token token ∷ rest → token.at ≡ at + 1 → AllFrom (at + 1) rest
      → token.at < token.end
      → join_token at pieces ≡ Token (record { at = at; end = token.end }) ∷ rest → Joined at pieces
  alone : join_token at pieces ≡ Token (record { at = at; end = at + 1 }) ∷ pieces → Joined at pieces

joined_case : (at : ℕ) (token : Span) (pieces : List Piece) → at + 1 ≤ token.at → token.at < token.end → AllFrom (at + 1) pieces
    → ((token.at ≡ at + 1) ⊎ (token.at ≢ at + 1)) → Joined at (Token token ∷ pieces)
joined_case at token pieces low some rest (inl e) = lengthened token pieces refl e rest some (join_same at token pieces e)
joined_case at token pieces low some rest (inr n) = alone (join_apart at token pieces (omega arith))

joined : (at : ℕ) (pieces : List Piece) → AllFrom (at + 1) pieces → Joined at pieces
joined at [] h = alone refl
joined at (Token token ∷ pieces) (more_from _ _ low some rest) = joined_case at token pieces low some rest (cases_eq token.at (at + 1))
joined at (Wrong place ∷ pieces) h = alone refl
joined at (LineEnd place ∷ pieces) h = alone refl

-- no piece stands before all of them
later : (place at : ℕ) (ps : List Piece) (t : Span) (ps' : List Piece) → ps ≡ Token t ∷ ps' → t.at ≡ at + 1 → AllFrom place ps
    → at + 1 < place → ⊥
later place at [] t ps' e at_is none_from lt = cc
later place at (piece ∷ pieces) t ps' e at_is (more_from _ _ low some rest) lt =
    let same : piece ≡ Token t = cc in
    let there : place_of piece ≡ t.at = ap place_of same in omega arith

-- one byte of a token in front of pieces that are alike
join_apart_alike : (place at : ℕ) (ps qs : List Piece) → at + 1 ≤ place → AllFrom (at + 1) ps → AllFrom (at + 1) qs → AllFrom place ps
    → AllFrom place qs
    → ((at + 1 ≡ place) ⊎ (at + 1 ≢ place)) → Joined at ps → Joined at qs → Alike place (join_token at ps) (join_token at qs)
join_apart_alike place at ps qs le hp hq fp fq (inl e) (lengthened t ps' ep et rp sp jp) (lengthened u qs' eq eu rq sq jq) =
    rw (jp, jq) (alike_cut (record { at = at; end = t.end }) (record { at = at; end = u.end }) ps' qs' refl (omega arith) (omega arith)
    (omega arith)
    (subst (λ (n : ℕ). AllFrom n ps') e rp) (subst (λ (n : ℕ). AllFrom n qs') e rq))
join_apart_alike place at ps qs le hp hq fp fq (inl e) (lengthened t ps' ep et rp sp jp) (alone jq) =
    rw (jp, jq) (alike_cut (record { at = at; end = t.end }) (record { at = at; end = at + 1 }) ps' qs refl (omega arith) (omega arith)
    (omega arith)
    (subst (λ (n : ℕ). AllFrom n ps') e rp) fq)
join_apart_alike place at ps qs le hp hq fp fq (inl e) (alone jp) (lengthened u qs' eq eu rq sq jq) =
    rw (jp, jq) (alike_cut (record { at = at; end = at + 1 }) (record { at = at; end = u.end }) ps qs' refl (omega arith) (omega arith)
    (omega arith)
    fp (subst (λ (n : ℕ). AllFrom n qs') e rq))
join_apart_alike place at ps qs le hp hq fp fq (inl e) (alone jp) (alone jq) =
    rw (jp, jq) (alike_cut (record { at = at; end = at + 1 }) (record { at = at; end = at + 1 }) ps qs refl (omega arith) (omega arith)
    (omega arith) fp fq)
join_apart_alike place at ps qs le hp hq fp fq (inr n) (lengthened t ps' ep et rp sp jp) jq =
    absurd (later place at ps t ps' ep et fp (omega arith))
join_apart_alike place at ps qs le hp hq fp fq (inr n) (alone jp) (lengthened u qs' eq eu rq sq jq) =
    absurd (later place at qs u qs' eq eu fq (omega arith))
join_apart_alike place at ps qs le hp hq fp fq (inr n) (alone jp) (alone jq) =
    rw (jp, jq) (alike_same (Token (record { at = at; end = at + 1 })) ps qs (omega arith) le (alike_apart ps qs fp fq))

-- one byte of a token in front of pieces that are alike
join_alike : (place at : ℕ) (ps qs : List Piece) → at + 1 ≤ place → AllFrom (at + 1) ps → AllFrom (at + 1) qs → Alike place ps qs
    → Alike place (join_token at ps) (join_token at qs)
join_alike place at ps qs le hp hq (alike_apart _ _ fp fq) =
    join_apart_alike place at ps qs le hp hq fp fq (cases_eq (at + 1) place) (joined at ps hp) (joined at qs hq)
join_alike place at (Token t ∷ ps) (Token u ∷ qs) le hp hq (alike_cut _ _ _ _ same low high other fp fq) =
    cut_case place at t u ps qs le same low high other fp fq (cases_eq t.at (at + 1)) (first_low at t ps hp)
  where
    first_low : (at : ℕ) (t : Span) (ps : List Piece) → AllFrom (at + 1) (Token t ∷ ps) → at + 1 ≤ t.at
    first_low at t ps (more_from _ _ low some rest) = low

    cut_case : (place at : ℕ) (t u : Span) (ps qs : List Piece) → at + 1 ≤ place → t.at ≡ u.at → t.at < place → place ≤ t.end
        → place ≤ u.end
        → AllFrom place ps → AllFrom place qs → ((t.at ≡ at + 1) ⊎ (t.at ≢ at + 1)) → at + 1 ≤ t.at
        → Alike place (join_token at (Token t ∷ ps)) (join_token at (Token u ∷ qs))
    cut_case place at t u ps qs le same low high other fp fq (inl e) first =
        rw (join_same at t ps e, join_same at u qs (sym same ∙ e))
        (alike_cut (record { at = at; end = t.end }) (record { at = at; end = u.end }) ps qs refl (omega arith) high other fp fq)
    cut_case place at t u ps qs le same low high other fp fq (inr n) first =
        rw (join_apart at t ps (omega arith), join_apart at u qs (omega arith))
        (alike_same (Token (record { at = at; end = at + 1 })) (Token t ∷ ps) (Token u ∷ qs) (omega arith) le
        (alike_cut t u ps qs same low high other fp fq))
join_alike place at (piece ∷ ps) (_ ∷ qs) le hp hq (alike_same _ _ _ some most rest) =
    same_case place at piece ps qs le hp some most rest
  where
    token_case : (place at : ℕ) (t : Span) (ps qs : List Piece) → at + 1 ≤ place → at + 1 ≤ t.at → t.at < t.end → t.end ≤ place
        → Alike place ps qs → ((t.at ≡ at + 1) ⊎ (t.at ≢ at + 1))
        → Alike place (join_token at (Token t ∷ ps)) (join_token at (Token t ∷ qs))
    token_case place at t ps qs le first some most rest (inl e) =
        rw (join_same at t ps e, join_same at t qs e) (alike_same (Token (record { at = at; end = t.end })) ps qs (omega arith) most rest)
    token_case place at t ps qs le first some most rest (inr n) =
        rw (join_apart at t ps (omega arith), join_apart at t qs (omega arith))
        (alike_same (Token (record { at = at; end = at + 1 })) (Token t ∷ ps) (Token t ∷ qs) (omega arith) le
        (alike_same (Token t) ps qs some most rest))

    same_case : (place at : ℕ) (piece : Piece) (ps qs : List Piece) → at + 1 ≤ place → AllFrom (at + 1) (piece ∷ ps)
        → place_of piece < end_of piece → end_of piece ≤ place → Alike place ps qs
        → Alike place (join_token at (piece ∷ ps)) (join_token at (piece ∷ qs))
    same_case place at (Token t) ps qs le (more_from _ _ low _ _) some most rest =
        token_case place at t ps qs le low some most rest (cases_eq t.at (at + 1))
    same_case place at (Wrong w) ps qs le h some most rest =
        alike_same (Token (record { at = at; end = at + 1 })) (Wrong w ∷ ps) (Wrong w ∷ qs) (omega arith) le
        (alike_same (Wrong w) ps qs some most rest)
    same_case place at (LineEnd w) ps qs le h some most rest =
        alike_same (Token (record { at = at; end = at + 1 })) (LineEnd w ∷ ps) (LineEnd w ∷ qs) (omega arith) le
        (alike_same (LineEnd w) ps qs some most rest)

step_alike : (blank feed token : Bool) (place at : ℕ) (ps qs : List Piece) → at + 1 ≤ place → AllFrom (at + 1) ps → AllFrom (at + 1) qs
    → Alike place ps qs
    → Alike place (step_by blank feed token at ps) (step_by blank feed token at qs)
unfolding step_by
step_alike true feed token place at ps qs le hp hq h = h
step_alike false true token place at ps qs le hp hq h = alike_same (LineEnd at) ps qs (omega arith) le h
step_alike false false true place at ps qs le hp hq h = join_alike place at ps qs le hp hq h
step_alike false false false place at ps qs le hp hq h = alike_same (Wrong at) ps qs (omega arith) le h

-- texts with one beginning
pub alike_pieces : (at place : ℕ) (first s t : List ℕ) → at + length first ≡ place
    → Alike place (pieces_of at (first ++ s)) (pieces_of at (first ++ t))
unfolding step_by
alike_pieces at place [] s t e =
    let same : at ≡ place = omega arith in
    alike_apart (pieces_of at s) (pieces_of at t)
    (subst (λ (n : ℕ). AllFrom n (pieces_of at s)) same (all_from at s))
    (subst (λ (n : ℕ). AllFrom n (pieces_of at t)) same (all_from at t))
alike_pieces at place (byte ∷ first) s t e =
    step_alike (is_blank byte) (byte == line_feed) (is_token_byte byte) place at (pieces_of (at + 1) (first ++ s))
    (pieces_of (at + 1) (first ++ t))
    (omega arith) (all_from (at + 1) (first ++ s)) (all_from (at + 1) (first ++ t)) (alike_pieces (at + 1) place first s t (omega arith))
