-- What is to be reported where the source fails behind some bytes. This project's own.
use Rattle.std.specs.Prelude.{◌≡◌, ℕ, ◌-◌, List, ◌++◌, map, length, None, slice_index}
use Rattle.std.specs.List.{All}
use Rattle.report_theory.specs.Report.{IsListReport}
use Rattle.palp_input.specs.Pieces.{line_feed}
use Rattle.palp_input.specs.Grammar.{Listed, read_text}
use Rattle.palp_engine.specs.Entries.{TextItem}
use Rattle.palp_engine.specs.Commands.{GiveJob, ReadsText, Says}

-- the byte in front of the place is a line end
abbrev pub HasLineEnd : List ℕ → ℕ → Type 0
HasLineEnd bytes end = slice_index bytes (end - 1) ≡ line_feed

-- Of the items that the grammar gives from some bytes these are the ones whose last line end stands among the bytes: each item is one of
-- these, and its end stands behind a line end, or it is another one, whose end doesn't.
pub record AreEndedItems (bytes : List ℕ) (items : List Listed) : Type 0 where
  pub others : List Listed
  pub ends : List ℕ
  pub other_ends : List ℕ
  pub all_items : (read_text bytes).items ≡ items ++ others
  pub all_ends : (read_text bytes).ends ≡ ends ++ other_ends
  pub as_many : length ends ≡ length items
  pub ended : All (HasLineEnd bytes) ends
  pub others_not : All (λ end. HasLineEnd bytes end → ⊥) other_ends

-- the report of those items, in pieces; none of them is refused
pub record IsEndedReport (words : List (List ℕ)) (bytes : List ℕ) (report : List (List ℕ)) : Type 0 where
  pub asked : GiveJob words
  pub reads : ReadsText asked.job
  pub items : List Listed
  pub are_ended : AreEndedItems bytes items
  pub is_report : IsListReport (Says asked.job) 1 0 (map TextItem items) report None
