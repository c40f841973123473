use Rattle.std.proofs.Common.{refl, ◌∙◌, arith}
use Rattle.face_closing.proofs.Closings.{closed_first, closed_added, more_than_fit, closed_all}
use Rattle.face_closing.proofs.closing.close_with.Goals as goal

pub loop-place-init : goal.loop-place-init
loop-place-init c = record { words = refl; width = refl; closed = closed_first c.args.table.now.rows c.args.row.now c.requires.apart }

pub returns-then-not-add-clause-closed : goal.returns-then-not-add-clause-closed
returns-then-not-add-clause-closed c =
    let n = c.len-place-end.ensures.value in
    let t = c.loop-place-test.true in
    more_than_fit c.loop-place.place c.args.table.now.rows c.args.row.now c.loop-place.table.rows c.row.result.now
    (omega arith) c.row.ensures.value c.loop-place.invariant.closed c.meet_into.new.meet c.meet_into.ensures c.if-not-add.ensures.rows

pub loop-place-preserved : goal.loop-place-preserved
loop-place-preserved c =
    let n = c.len-place-end.ensures.value in
    let t = c.loop-place-test.true in
    record {
      words = c.add.ensures.row_words ∙ c.loop-place.invariant.words;
      width = c.meet_into.auto.meet ∙ c.loop-place.invariant.width;
      closed = closed_added c.loop-place.place c.args.table.now.rows c.args.row.now c.loop-place.table.rows c.row.result.now
          (omega arith) c.row.ensures.value c.loop-place.invariant.closed c.meet_into.new.meet c.add.new.self.rows _ c.meet_into.ensures c.if-not-add.ensures.rows refl;
    }

pub returns-clause-closed : goal.returns-clause-closed
returns-clause-closed c =
    let n = c.len-place-end.ensures.value in
    let t = c.loop-place-test.false in
    closed_all c.loop-place.place c.args.table.now.rows c.args.row.now c.loop-place.table.rows (omega arith) c.loop-place.invariant.closed
