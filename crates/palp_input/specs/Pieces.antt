-- The tokens, line ends and other bytes of a text, each with its place, which is counted from 0.
-- This project's own.
use Rattle.std.specs.Prelude.{ℕ, ◌+◌, Bool, ◌&&◌, ◌||◌, List, [], ◌∷◌, if◌then◌else◌, ◌==◌, nat_le}
use Rattle.palp_input.specs.declared.pieces.Piece.{Piece}
use Rattle.palp_input.specs.declared.pieces.Piece.TheVariants.{Token, Wrong, LineEnd}

abbrev pub line_feed : ℕ
line_feed = 10

abbrev pub is_blank : ℕ → Bool
is_blank byte = byte == 9 || (byte == 13 || byte == 32)

abbrev pub is_token_byte : ℕ → Bool
is_token_byte byte = nat_le 33 byte && nat_le byte 126

-- a byte of a token in front of the pieces behind it: it lengthens a token that follows directly
abbrev pub join_token : ℕ → List Piece → List Piece
join_token at [] = Token (record { at = at; end = at + 1 }) ∷ []
join_token at (Token token ∷ pieces) =
    if token.at == at + 1 then Token (record { at = at; end = token.end }) ∷ pieces
    else Token (record { at = at; end = at + 1 }) ∷ Token token ∷ pieces
join_token at (Wrong place ∷ pieces) = Token (record { at = at; end = at + 1 }) ∷ Wrong place ∷ pieces
join_token at (LineEnd place ∷ pieces) = Token (record { at = at; end = at + 1 }) ∷ LineEnd place ∷ pieces

-- the pieces of the bytes, the first of which stands at the place: blanks only part them
abbrev pub pieces_of : ℕ → List ℕ → List Piece
pieces_of at [] = []
pieces_of at (byte ∷ bytes) =
    if is_blank byte then pieces_of (at + 1) bytes
    else (if byte == line_feed then LineEnd at ∷ pieces_of (at + 1) bytes
    else (if is_token_byte byte then join_token at (pieces_of (at + 1) bytes)
    else Wrong at ∷ pieces_of (at + 1) bytes))

-- the place behind the first line end of the pieces, or the end of the text of so many bytes
abbrev pub first_line_end : ℕ → List Piece → ℕ
first_line_end size [] = size
first_line_end size (Token token ∷ pieces) = first_line_end size pieces
first_line_end size (Wrong at ∷ pieces) = first_line_end size pieces
first_line_end size (LineEnd at ∷ pieces) = at + 1

-- the length of the line that the bytes begin with, its line end included
abbrev pub line_len : List ℕ → ℕ
line_len [] = 0
line_len (byte ∷ bytes) = if byte == line_feed then 1 else line_len bytes + 1
