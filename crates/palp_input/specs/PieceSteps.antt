-- What the steps that find a piece answer, which only the code and its proofs use: what the pieces of
-- a text are is in Pieces. This project's own.
use Rattle.std.specs.Prelude.{◌≡◌, ℕ, ◌+◌, ◌<◌, ◌≤◌, List, [], ◌∷◌, drop}
use Rattle.palp_input.specs.declared.pieces.Mark.{Mark}
use Rattle.palp_input.specs.declared.pieces.Mark.TheVariants.{Word, BadByte, Nothing}
use Rattle.palp_input.specs.declared.pieces.Piece.{Piece}
use Rattle.palp_input.specs.declared.pieces.Piece.TheVariants.{Token, Wrong, LineEnd}
use Rattle.palp_input.specs.Pieces.{pieces_of}

-- the place behind a piece
abbrev pub end_of : Piece → ℕ
end_of (Token token) = token.end
end_of (Wrong at) = at + 1
end_of (LineEnd at) = at + 1

-- the place of a piece
abbrev pub place_of : Piece → ℕ
place_of (Token token) = token.at
place_of (Wrong at) = at
place_of (LineEnd at) = at

-- a piece stands from a place on in a text of so many bytes
pub record IsWithin (from size at end : ℕ) : Type 0 where
  pub least : from ≤ at
  pub some : at < end
  pub most : end ≤ size

abbrev pub PieceWithin : ℕ → ℕ → Piece → Type 0
PieceWithin from size (Token token) = IsWithin from size token.at token.end
PieceWithin from size (Wrong at) = IsWithin from size at (at + 1)
PieceWithin from size (LineEnd at) = IsWithin from size at (at + 1)

-- the pieces from the first one on that isn't a line end
abbrev pub without_line_ends : List Piece → List Piece
without_line_ends [] = []
without_line_ends (Token token ∷ pieces) = Token token ∷ pieces
without_line_ends (Wrong at ∷ pieces) = Wrong at ∷ pieces
without_line_ends (LineEnd at ∷ pieces) = without_line_ends pieces

-- what a mark says of the pieces that it begins
abbrev pub MarkMeans : List ℕ → List Piece → Mark → Type 0
MarkMeans text pieces (Word token) = pieces ≡ Token token ∷ pieces_of token.end (drop token.end text)
MarkMeans text pieces (BadByte at) = pieces ≡ Wrong at ∷ pieces_of (at + 1) (drop (at + 1) text)
MarkMeans text pieces Nothing = pieces ≡ []

-- a mark is the first of the pieces from its place on
abbrev pub MarkBegins : List ℕ → Mark → Type 0
MarkBegins text (Word token) = pieces_of token.at (drop token.at text) ≡ Token token ∷ pieces_of token.end (drop token.end text)
MarkBegins text (BadByte at) = pieces_of at (drop at text) ≡ Wrong at ∷ pieces_of (at + 1) (drop (at + 1) text)
MarkBegins text Nothing = Unit {0}

abbrev pub MarkWithin : ℕ → ℕ → Mark → Type 0
MarkWithin from size (Word token) = IsWithin from size token.at token.end
MarkWithin from size (BadByte at) = IsWithin from size at (at + 1)
MarkWithin from size Nothing = Unit {0}
