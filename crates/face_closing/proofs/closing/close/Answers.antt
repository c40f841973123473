use Rattle.std.proofs.Common.{ℕ, [], length, ◌∙◌, sym, ap, subst, arith}
use Rattle.face_closing.specs.Tables.{AreMeetRows}
use Rattle.face_closing.proofs.MeetRows.{next_meets, more_faces, all_meets, function_within}
use Rattle.face_closing.proofs.closing.close.Goals as goal

pub close_with-requires : goal.close_with-requires
close_with-requires c =
    let n = c.len-function-end.ensures in
    let t = c.loop-function-test.true in
    record {
      words = ap length c.row.ensures ∙ c.requires.long c.loop-function.function [] (omega arith) ∙ sym c.loop-function.invariant.words;
      space = c.loop-function.invariant.width ∙ c.requires.space ∙ sym c.loop-function.invariant.words;
      apart = c.loop-function.invariant.apart;
    }

pub returns-then-not-close_with-clause-faces : goal.returns-then-not-close_with-clause-faces
returns-then-not-close_with-clause-faces c = λ R told start.
    let n = c.len-function-end.ensures in
    let t = c.loop-function-test.true in
    more_faces c.args.table.now.row_words R c.args.rows.now.rows told c.loop-function.function (function_within told (omega arith))
    c.row.result.now c.row.ensures c.loop-function.table.rows (c.loop-function.invariant.meets R told start) c.if-not-close_with.ensures.closed

pub loop-function-preserved : goal.loop-function-preserved
loop-function-preserved c =
    let n = c.len-function-end.ensures in
    let t = c.loop-function-test.true in
    record {
      words = c.close_with.ensures.words ∙ c.loop-function.invariant.words;
      width = c.close_with.ensures.space ∙ c.loop-function.invariant.width;
      apart = c.if-not-close_with.ensures.closed.apart;
      meets = λ R told start. subst (λ (j : ℕ). AreMeetRows c.args.table.now.row_words R j c.close_with.new.table.rows) (omega arith)
          (next_meets c.args.table.now.row_words R c.args.rows.now.rows told c.loop-function.function (function_within told (omega arith))
          c.row.result.now c.row.ensures c.loop-function.table.rows (c.loop-function.invariant.meets R told start)
          c.close_with.new.table.rows c.if-not-close_with.ensures.closed);
    }

pub returns-clause-faces : goal.returns-clause-faces
returns-clause-faces c = λ R told start.
    let n = c.len-function-end.ensures in
    let t = c.loop-function-test.false in
    let e = c.loop-function.auto.function-end in
    all_meets c.args.table.now.row_words R c.args.rows.now.rows c.loop-function.table.rows c.loop-function.function told (omega arith) (omega arith)
    (c.loop-function.invariant.meets R told start) c.loop-function.invariant.apart
