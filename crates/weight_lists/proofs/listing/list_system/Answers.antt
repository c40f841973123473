use Rattle.std.proofs.Common.{Bool, subst}
use Rattle.std.proofs.lemmas.Result.{err_from_is_err_and}
use Rattle.lattice_core.specs.Weights.{weighted}
use Rattle.weight_lists.specs.Steps.{IsChosen}
use Rattle.weight_lists.proofs.SystemLines.{left_out_item, no_line, stopped_item, given_line, failed_line}
use Rattle.weight_lists.proofs.listing.list_system.Goals as goal

pub returns-in-Ok-false : goal.returns-in-Ok-false
returns-in-Ok-false g c = left_out_item c.args.only c.args.number (weighted c.args.system.now) _
    (subst (λ (b : Bool). IsChosen c.args.only (weighted c.args.system.now) b) c.in-Ok-false.field-0-test c.in-Ok-false.ensures)

pub returns-in-Err : goal.returns-in-Err
returns-in-Err g c = stopped_item c.args.only c.args.number (weighted c.args.system.now) _ c.in-Err.fault c.stopped.result c.in-Err.ensures
    c.stopped.ensures

pub returns-in_err-weights : goal.returns-in_err-weights
returns-in_err-weights g c =
    let e = err_from_is_err_and c.from_residual.result c.from_residual.ensures.1 in
    rw (e.1, e.2) (no_line c.args.only c.args.number (weighted c.args.system.now) _)

pub returns-in_err-give : goal.returns-in_err-give
returns-in_err-give g c =
    let e = err_from_is_err_and c.from_residual-in_err-give.result c.from_residual-in_err-give.ensures.1 in
    rw e.1 (failed_line c.args.only c.args.number (weighted c.args.system.now) _ _
    (subst (λ (b : Bool). IsChosen c.args.only (weighted c.args.system.now) b) c.in-Ok-true.field-0-test c.in-Ok-true.ensures)
    c.weights.new.self c.clear.new.self c.clear.ensures c.in_ok-weights.ensures c.give.result c.give.ensures c.in_err-give.field-0.0 e.0
    c.in_err-give.was e.2)

pub returns : goal.returns
returns g c = given_line c.args.only c.args.number (weighted c.args.system.now) _ _
    (subst (λ (b : Bool). IsChosen c.args.only (weighted c.args.system.now) b) c.in-Ok-true.field-0-test c.in-Ok-true.ensures)
    c.weights.new.self c.clear.new.self c.clear.ensures c.in_ok-weights.ensures c.give.result c.give.ensures c.in_ok-give.was
