use Rattle.std.proofs.lemmas.Result.{err_from_is_err_and}
use Rattle.std.proofs.Common.{refl}
use Rattle.palp_words.specs.declared.job.Job.TheVariants.{Poly}
use Rattle.palp_input.specs.Grammar.{listed}
use Rattle.palp_engine.proofs.ItemSteps.{stopped_item, unwanted_item, written, unwritten, whole_item, part_of_item}
use Rattle.palp_engine.proofs.session.report_blocks.Goals as goal

pub returns-in_err-wanted : goal.returns-in_err-wanted
returns-in_err-wanted g c =
    let e = err_from_is_err_and c.from_residual.result c.from_residual.ensures.1 in
    rw e.1 (stopped_item (Poly c.args.flags.now) c.args.flags.now refl (listed c.args.item.now) _ c.in_err-wanted.field-0.0 e.0
    c.in_err-wanted.ensures e.2)

pub returns-then-not-wanted : goal.returns-then-not-wanted
returns-then-not-wanted g c = unwanted_item (Poly c.args.flags.now) c.args.flags.now refl (listed c.args.item.now) _
    (unwritten _ _ _ c.in_ok-wanted.wanted c.if-not-wanted.true c.in_ok-wanted.ensures)

pub returns : goal.returns
returns g c =
    elim c.match-give.branch [
      | goal.in-All w ↦ rw w.result-is (whole_item (Poly c.args.flags.now) c.args.flags.now refl (listed c.args.item.now) _ c.write_piece.new.page
          (written _ _ _ c.in_ok-wanted.wanted c.if-not-wanted.false c.in_ok-wanted.ensures) _ c.give.ensures.later
          (rw c.bytes.ensures at (rw w.in-All.is at c.give.ensures.means)))
      | goal.in-Failed w ↦ rw w.result-is (
        (w.in-Failed.ensures.means).rose,
        part_of_item (Poly c.args.flags.now) c.args.flags.now refl (listed c.args.item.now) _
            c.write_piece.new.page (written _ _ _ c.in_ok-wanted.wanted c.if-not-wanted.false c.in_ok-wanted.ensures) _ c.give.ensures.later
            (rw c.bytes.ensures at (w.in-Failed.ensures.means)).part,
      )
    ]
