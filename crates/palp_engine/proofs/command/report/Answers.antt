use Rattle.std.proofs.Common.{◌≡◌, Option, Some, None, Ok, subst}
use Rattle.palp_input.specs.Reading.{ReaderState, NextMeans}
use Rattle.palp_input.specs.declared.item.Item.{Item}
use Rattle.palp_io.specs.Source.{SourceState}
use Rattle.palp_engine.proofs.ReportSteps.{run_unopened, run_nothing, run_done, run_unread, run_stopped, run_next, next_is_item}
use Rattle.palp_engine.proofs.command.report.Goals as goal

-- what the reader answered
told : (o known : Option Item) (before now : ReaderState) (source source_now : SourceState) → o ≡ known
    → NextMeans (Ok o) before now source source_now → NextMeans (Ok known) before now source source_now
told o known before now source source_now e m = subst (λ (x : Option Item). NextMeans (Ok x) before now source source_now) e m

pub returns-in_default : goal.returns-in_default
returns-in_default g c = run_unopened c.args.job.now _ _

pub loop-item-init : goal.loop-item-init
loop-item-init g c = run_nothing c.args.job.now _ c.new-reader.result _ c.new-reader.ensures

pub returns-in-Ok-None : goal.returns-in-Ok-None
returns-in-Ok-None g c =
    run_done c.args.job.now c.requires.reads _ _ _ c.loop-item.reader c.next_item.new.self _ _ c.loop-item.number c.loop-item.invariant
    (told c.in-Ok-None.field-0 None c.loop-item.reader c.next_item.new.self _ _ c.in-Ok-None.field-0-is c.in-Ok-None.ensures)

pub returns-in-Err : goal.returns-in-Err
returns-in-Err g c =
    run_unread c.args.job.now c.requires.reads _ _ _ c.loop-item.reader c.next_item.new.self _ _ c.loop-item.number c.loop-item.invariant
    c.in-Err.fault c.unread.result c.unread.ensures c.in-Err.ensures

pub report_item-requires-clause-item : goal.report_item-requires-clause-item
report_item-requires-clause-item g c =
    next_is_item c.in-Ok-Some.item c.loop-item.reader c.next_item.new.self _ _
    (told c.in-Ok-Some.field-0 (Some c.in-Ok-Some.item) c.loop-item.reader c.next_item.new.self _ _ c.in-Ok-Some.field-0-is
    c.in-Ok-Some.ensures)

pub returns-in-Err-report_item : goal.returns-in-Err-report_item
returns-in-Err-report_item g c =
    run_stopped c.args.job.now c.requires.reads _ _ _ c.loop-item.reader c.next_item.new.self _ _ c.loop-item.number c.loop-item.invariant
    c.in-Ok-Some.item
    (told c.in-Ok-Some.field-0 (Some c.in-Ok-Some.item) c.loop-item.reader c.next_item.new.self _ _ c.in-Ok-Some.field-0-is
    c.in-Ok-Some.ensures)
    (g.O.Sink.state c.report_item.new.out) c.in-Err-report_item.fault c.stopped.result c.stopped.ensures c.in-Err-report_item.ensures

pub loop-item-preserved-in_default-report_item : goal.loop-item-preserved-in_default-report_item
loop-item-preserved-in_default-report_item g c =
    run_next c.args.job.now c.requires.reads _ _ _ c.loop-item.reader c.next_item.new.self _ _ c.loop-item.number c.loop-item.invariant
    c.in-Ok-Some.item
    (told c.in-Ok-Some.field-0 (Some c.in-Ok-Some.item) c.loop-item.reader c.next_item.new.self _ _ c.in-Ok-Some.field-0-is
    c.in-Ok-Some.ensures)
    (g.O.Sink.state c.report_item.new.out) c.in_default-report_item.ensures

pub loop-item-preserved : goal.loop-item-preserved
loop-item-preserved g c =
    run_next c.args.job.now c.requires.reads _ _ _ c.loop-item.reader c.next_item.new.self _ _ c.loop-item.number c.loop-item.invariant
    c.in-Ok-Some.item
    (told c.in-Ok-Some.field-0 (Some c.in-Ok-Some.item) c.loop-item.reader c.next_item.new.self _ _ c.in-Ok-Some.field-0-is
    c.in-Ok-Some.ensures)
    (g.O.Sink.state c.report_item.new.out) c.in_default-report_item.ensures
