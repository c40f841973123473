-- A header whose line end stands in the beginning of a text is the text's.
use Rattle.std.proofs.Common.{◌≡◌, ℕ, ◌*◌, ◌<◌, ◌≤◌, Bool, true, false, cond, List, [], ◌∷◌, ◌++◌, length, drop, sym, ap, subst, ◌∙◌, arith}
use Rattle.std.specs.Prelude.{◌==◌}
use Rattle.std.proofs.lemmas.List.{append-nil}
use Rattle.palp_input.specs.Pieces.{pieces_of, first_line_end}
use Rattle.palp_input.specs.PieceSteps.{without_line_ends}
use Rattle.palp_input.specs.Lines.{LeadingNumbers, line_read, matrix_read}
use Rattle.palp_input.specs.Grammar.{ListedPoints, Given, line_item, numbers_item, matrix_item, pieces_item, next_of}
use Rattle.palp_input.specs.declared.pieces.Piece.{Piece}
use Rattle.palp_input.specs.declared.pieces.Piece.TheVariants.{Token, Wrong, LineEnd}
use Rattle.palp_input.specs.declared.lines.LineNumber.{LineNumber}
use Rattle.palp_input.proofs.Alike.{AllFrom, more_from, Alike, alike_apart, alike_cut, alike_same, alike_pieces}
use Rattle.palp_input.proofs.SettledLines.{LineEndsAt, line_ends_before, line_ends_from, line_settled, not_below}
use Rattle.palp_input.proofs.SettledItems.{line_alike}

all_without : (place : ℕ) (pieces : List Piece) → AllFrom place pieces → AllFrom place (without_line_ends pieces)
all_without place [] h = h
all_without place (Token token ∷ pieces) h = h
all_without place (Wrong at ∷ pieces) h = h
all_without place (LineEnd at ∷ pieces) (more_from _ _ low some rest) = all_without place pieces rest

module _ (first t : List ℕ) (end : ℕ) (le : end ≤ length first) (numbers : List LineNumber) where
  -- the numbers of the first line
  line_begun : (ps qs : List Piece) → Alike (length first) ps qs → LineEndsAt end (without_line_ends ps)
      → line_read (first ++ []) true (without_line_ends ps) ≡ LeadingNumbers numbers → pieces_item (first ++ t) qs ≡ numbers_item (first ++ t) end numbers
  unfolding LineEndsAt
  line_begun ps qs (alike_apart _ _ fp fq) ends read =
      absurd (not_below end (length first) le (line_ends_from (length first) end (without_line_ends ps) (all_without (length first) ps fp) ends))
  line_begun (Token u ∷ ps) (Token v ∷ qs) (alike_cut _ _ _ _ same low high other fp fq) ends read =
      absurd (not_below end (length first) le (line_ends_from (length first) end ps fp ends))
  line_begun (Token token ∷ ps) (_ ∷ qs) (alike_same _ _ _ some within rest) ends read =
      ap (λ (n : ℕ). line_item (first ++ t) n (line_read (first ++ t) true (Token token ∷ qs)))
      (line_alike first [] t (length (first ++ t)) end ps qs rest ends le)
      ∙ ap (line_item (first ++ t) end)
      (sym (line_settled first [] t end true (Token token ∷ ps) (Token token ∷ qs) (alike_same (Token token) ps qs some within rest) ends le)
      ∙ read)
  line_begun (Wrong at ∷ ps) (_ ∷ qs) (alike_same _ _ _ some within rest) ends read = cc
  line_begun (LineEnd at ∷ ps) (_ ∷ qs) (alike_same _ _ _ some within rest) ends read = line_begun ps qs rest ends read

-- the item of a header with entries
entries_follow : (text : List ℕ) (end : ℕ) (lines columns : LineNumber) → (lines.value * columns.value == 0) ≡ false
    → numbers_item text end (lines ∷ columns ∷ []) ≡ matrix_item text lines.at lines.value columns.value
    (matrix_read text (lines.value * columns.value) end (pieces_of end (drop end text)))
entries_follow text end lines columns some =
    ap (λ (none : Bool). cond none (Given (ListedPoints lines.value columns.value []) end)
    (matrix_item text lines.at lines.value columns.value
    (matrix_read text (lines.value * columns.value) end (pieces_of end (drop end text))))) some

pub header_begun : (first more : List ℕ) (end : ℕ) (lines columns : LineNumber) → end < length first
    → first_line_end (length first) (without_line_ends (pieces_of 0 first)) ≡ end
    → line_read first true (without_line_ends (pieces_of 0 first)) ≡ LeadingNumbers (lines ∷ columns ∷ [])
    → (lines.value * columns.value == 0) ≡ false
    → next_of (first ++ more) ≡ matrix_item (first ++ more) lines.at lines.value columns.value
    (matrix_read (first ++ more) (lines.value * columns.value) end (pieces_of end (drop end (first ++ more))))
header_begun first more end lines columns lt ends read some =
    line_begun first more end (omega arith) (lines ∷ columns ∷ []) (pieces_of 0 (first ++ [])) (pieces_of 0 (first ++ more))
    (alike_pieces 0 (length first) first [] more (omega arith))
    (subst (λ (text : List ℕ). LineEndsAt end (without_line_ends (pieces_of 0 text))) (sym (append-nil first))
    (line_ends_before (length first) end (without_line_ends (pieces_of 0 first)) ends lt))
    (subst (λ (text : List ℕ). line_read text true (without_line_ends (pieces_of 0 text)) ≡ LeadingNumbers (lines ∷ columns ∷ []))
    (sym (append-nil first)) read)
    ∙ entries_follow (first ++ more) end lines columns some
