use Rattle.std.proofs.Common.{◌+◌, ◌<◌, ℕ, length}
use Rattle.face_theory.specs.Faces.{TightRelation}
use Rattle.face_closing.specs.Words.{set_of}
use Rattle.face_closing.specs.Tables.{AreFunctionRows, AreFaceRows}
use Rattle.face_closing.specs.steps.Chains.{row_at}
use Rattle.face_closing.specs.steps.PartRanks.{HasRank}
use Rattle.face_closing.proofs.PartRanks.{IsOverFirst}
use Rattle.face_closing.proofs.ranks.rank_of_word.Given as goal

abbrev pub invariant-loop-function : goal.invariant-loop-function
invariant-loop-function l = record {
  low : l.rank + l.place < length l.ranks;
  over : (R : TightRelation) → AreFunctionRows l.sorted.row_words R l.rows.rows → AreFaceRows l.sorted.row_words R l.sorted.rows
      → ((k : ℕ) → l.place < k → k < length l.ranks → HasRank R l.sorted.rows l.ranks k)
      → IsOverFirst R (set_of R.members (row_at l.sorted.rows l.place)) l.function l.rank;
}
