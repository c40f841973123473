use Rattle.std.proofs.Common.{◌≡◌, ◌+◌, ℕ, max, List, [], length, sym, ap, ◌∙◌, subst, arith}
use Rattle.face_closing.specs.Words.{set_of, meet_words}
use Rattle.face_closing.specs.steps.Chains.{row_at}
use Rattle.face_closing.proofs.MeetRows.{function_within}
use Rattle.face_closing.proofs.PartRanks.{IsOverFirst, part_low, part_says, over_next, over_all, row_is_face}
use Rattle.face_closing.proofs.ranks.rank_at.Goals as goal
use Rattle.face_closing.proofs.ranks.rank_at.Goals.{then-next-rank, else-next-rank}

pub loop-function-preserved : goal.loop-function-preserved
loop-function-preserved c =
    let n = c.len-function-end.ensures in
    let t = c.loop-function-test.true in
    let is = c.meet_into.ensures ∙ ap (λ (w : List ℕ). meet_words w c.row-in-loop-function.result.now) c.row.ensures.value in
    let long = sym (ap length c.row.ensures.value) ∙ c.row.ensures.words
    ∙ sym (ap length c.row-in-loop-function.ensures ∙ c.requires.long c.loop-function.function [] (omega arith)) in
    let part = part_low c.args.sorted.now.rows c.args.ranks.now c.args.place c.meet_into.new.meet c.row-in-loop-function.result.now c.rank_over_part-next.result
    c.requires.ascending c.requires.place c.requires.many c.requires.low long is c.rank_over_part-next.ensures in
    let before = c.loop-function.invariant.low in
    let larger : c.if-next-rank.rank ≡ max c.loop-function.rank c.rank_over_part-next.result =
    elim c.if-next-rank.branch [ then-next-rank w ↦ omega arith | else-next-rank w ↦ omega arith ] in
    record {
      width = c.meet_into.auto.meet ∙ c.loop-function.invariant.width;
      low = omega arith;
      over = λ R told faces known. subst (IsOverFirst R (set_of R.members (row_at c.args.sorted.now.rows c.args.place)) (c.loop-function.function + 1)) (sym larger)
          (over_next R (set_of R.members (row_at c.args.sorted.now.rows c.args.place)) c.loop-function.function c.loop-function.rank c.rank_over_part-next.result
          (c.loop-function.invariant.over R told faces known)
          (part_says c.args.sorted.now.row_words R c.args.rows.now.rows c.args.sorted.now.rows c.args.ranks.now c.args.place told faces
          c.requires.ascending c.requires.place c.requires.many known c.loop-function.function (function_within told (omega arith))
          c.row-in-loop-function.result.now c.meet_into.new.meet c.row-in-loop-function.ensures is c.rank_over_part-next.result c.rank_over_part-next.ensures));
    }

pub returns-clause-rank : goal.returns-clause-rank
returns-clause-rank c = λ R told faces known.
    let n = c.len-function-end.ensures in
    let t = c.loop-function-test.false in
    let e = c.loop-function.auto.function-end in
    let m = told.many in
    over_all R (set_of R.members (row_at c.args.sorted.now.rows c.args.place)) c.loop-function.function c.loop-function.rank
    (row_is_face c.args.sorted.now.row_words R c.args.sorted.now.rows c.args.place faces c.requires.place) (omega arith) (omega arith)
    (c.loop-function.invariant.over R told faces known)
