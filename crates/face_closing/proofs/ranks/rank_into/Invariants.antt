use Rattle.std.proofs.Common.{◌≡◌, ◌≤◌, ◌<◌, ℕ, length}
use Rattle.std.specs.Prelude.{vec_capacity}
use Rattle.face_theory.specs.Faces.{TightRelation}
use Rattle.face_closing.specs.Tables.{AreFunctionRows, AreFaceRows}
use Rattle.face_closing.specs.steps.PartRanks.{AreLow, HasRank}
use Rattle.face_closing.specs.declared.limits.TheConstants.{MOST_FACES}
use Rattle.face_closing.proofs.ranks.rank_into.Given as goal

abbrev pub invariant-loop-place : goal.invariant-loop-place
invariant-loop-place l = record {
  room : MOST_FACES ≤ vec_capacity l.ranks;
  width : length l.space ≡ length l.initial.space;
  many : length l.ranks.items ≡ length l.sorted.rows;
  within : l.place ≤ length l.sorted.rows;
  low : AreLow l.ranks.items;
  ranked : (R : TightRelation) → AreFunctionRows l.sorted.row_words R l.rows.rows → AreFaceRows l.sorted.row_words R l.sorted.rows
      → (k : ℕ) → l.place ≤ k → k < length l.ranks.items → HasRank R l.sorted.rows l.ranks.items k;
}

abbrev pub decreases-loop-place : goal.decreases-loop-place
decreases-loop-place l = l.place
