-- The items of the bytes that were taken before the source failed.
use Rattle.std.proofs.Common.{◌≡◌, ◌≢◌, inl, inr, ℕ, ◌+◌, ◌-◌, ◌≤◌, Bool, true, false, cond, List, [], ◌++◌, length, drop, take, get_or, refl, sym, ap, subst, ◌∙◌, arith, append_assoc}
use Rattle.std.specs.Prelude.{slice_index, nat_le}
use Rattle.std.proofs.lemmas.Bool.Decides.{nat_tests}
use Rattle.std.specs.List.{All}
use Rattle.std.proofs.lemmas.List.{get_or-append-add}
use Rattle.std.proofs.lemmas.List.Elements.{All-nil, All-cons, All-weaker}
use Rattle.std.proofs.Math.Seq.{drop-length}
use Rattle.palp_io.specs.Source.{SourceState}
use Rattle.palp_input.specs.Pieces.{line_feed}
use Rattle.palp_input.specs.ItemSteps.{IsLineEnd}
use Rattle.palp_input.specs.Grammar.{Listed, NextWithin, Known, Beyond, Nothing, Given, Faulty, next_of, next_within, most_bytes, line_feeds, End, TextRead, no_more, with_item, reading_behind}
use Rattle.palp_input.specs.Reading.{ReaderState}
use Rattle.palp_input.specs.Answers.{reading_of}
use Rattle.palp_input.proofs.SettledItems.{item_some}
use Rattle.palp_input.proofs.LineEnds.{item_ends_line}
use Rattle.palp_input.proofs.Readings.{known_first, goes_on, reading_ends, reading_faulty, reading_too_long}
use Rattle.palp_engine.specs.Ended.{HasLineEnd, AreEndedItems}
use Rattle.palp_engine.proofs.TextReadings.{ReadSoFar, has_line_end_more}

-- no bytes have no item
empty_next : (room : ℕ) → next_within room [] ≡ Known Nothing
empty_next room = let fits : nat_le 0 room ≡ true = grind (arith, nat_tests) in ap (λ (b : Bool). cond b (Known Nothing) Beyond) fits

empty_ends : (bytes lines : ℕ) → reading_behind bytes lines [] ≡ no_more End
empty_ends bytes lines = reading_ends bytes lines [] (empty_next (most_bytes - bytes))

last_place : (size end : ℕ) → 1 ≤ end → size + end - 1 ≡ size + (end - 1)
last_place size end some = omega arith

module _ (reader : ReaderState) (passed bytes : List ℕ) (count : length passed ≡ reader.bytes)
    (no_item : (item : Listed) (end : ℕ) → next_of (reader.held ++ bytes) ≡ Given item end
    → slice_index (reader.held ++ bytes) (end - 1) ≢ line_feed) where
  abbrev rest : List ℕ
  rest = reader.held ++ bytes

  abbrev IsOpen : ℕ → Type 0
  IsOpen end = HasLineEnd (passed ++ rest) end → ⊥

  -- the item in question ends with the bytes
  is_open : (item : Listed) (end : ℕ) → next_of rest ≡ Given item end → IsOpen (reader.bytes + end)
  is_open item end e line = no_item item end e
      (sym (ap (λ (n : ℕ). get_or (passed ++ rest) (n + end - 1) 0) (sym count)
      ∙ ap (λ (n : ℕ). get_or (passed ++ rest) n 0) (last_place (length passed) end (item_some rest item end e).0)
      ∙ get_or-append-add passed rest (end - 1) 0) ∙ line)

  last_of : (item : Listed) (end : ℕ) → next_of rest ≡ Given item end → IsLineEnd rest end → drop end rest ≡ []
  last_of item end e (inl all) = ap (λ (n : ℕ). drop n rest) all ∙ drop-length rest
  last_of item end e (inr line) = absurd (no_item item end e line)

  open_case : (next : NextWithin) → next_within (most_bytes - reader.bytes) rest ≡ next → All IsOpen (reading_of reader bytes).ends
  open_case Beyond e = subst (λ (t : TextRead). All IsOpen t.ends) (sym (reading_too_long reader.bytes reader.lines rest e)) (All-nil IsOpen)
  open_case (Known Nothing) e = subst (λ (t : TextRead). All IsOpen t.ends) (sym (reading_ends reader.bytes reader.lines rest e))
      (All-nil IsOpen)
  open_case (Known (Faulty fault)) e =
      subst (λ (t : TextRead). All IsOpen t.ends) (sym (reading_faulty reader.bytes reader.lines rest fault e)) (All-nil IsOpen)
  open_case (Known (Given item end)) e =
      let given = known_first (most_bytes - reader.bytes) rest (Given item end) e in
      let lines = reader.lines + line_feeds (take end rest) in
      let none : reading_behind (reader.bytes + end) lines (drop end rest) ≡ no_more End =
      ap (reading_behind (reader.bytes + end) lines) (last_of item end given (item_ends_line rest item end given))
      ∙ empty_ends (reader.bytes + end) lines in
      subst (λ (t : TextRead). All IsOpen t.ends)
      (sym (goes_on reader.bytes reader.lines rest item end e ∙ ap (with_item item (reader.bytes + end)) none))
      (All-cons IsOpen (reader.bytes + end) [] (is_open item end given) (All-nil IsOpen))

  pub others_open : All IsOpen (reading_of reader bytes).ends
  others_open = open_case (next_within (most_bytes - reader.bytes) rest) refl

-- the items read so far are those whose last line end stands among the bytes taken
pub ended_items : (source middle : SourceState) (reader : ReaderState) (items : List Listed) (so_far : ReadSoFar source middle reader items)
    (bytes : List ℕ) → reader.ended ≡ false
    → ((item : Listed) (end : ℕ) → next_of (reader.held ++ bytes) ≡ Given item end
    → slice_index (reader.held ++ bytes) (end - 1) ≢ line_feed)
    → AreEndedItems ((so_far.passed ++ reader.held) ++ bytes) items
ended_items source middle reader items so_far bytes unended no_item =
    let reading = so_far.taken bytes (λ e. let both = sym e ∙ unended in absurd (cc)) in
    let same = append_assoc so_far.passed reader.held bytes in
    record {
      others = (reading_of reader bytes).items;
      ends = so_far.ends;
      other_ends = (reading_of reader bytes).ends;
      all_items = ap (λ (t : TextRead). t.items) reading;
      all_ends = ap (λ (t : TextRead). t.ends) reading;
      as_many = so_far.as_many;
      ended = subst (λ (xs : List ℕ). All (HasLineEnd xs) so_far.ends) (sym same)
          (All-weaker (HasLineEnd so_far.passed) (HasLineEnd (so_far.passed ++ (reader.held ++ bytes)))
          (λ end h. has_line_end_more so_far.passed (reader.held ++ bytes) end h) so_far.ends (so_far.ended unended));
      others_not = subst (λ (xs : List ℕ). All (λ end. HasLineEnd xs end → ⊥) (reading_of reader bytes).ends) (sym same)
          (others_open reader so_far.passed bytes so_far.count no_item);
    }
