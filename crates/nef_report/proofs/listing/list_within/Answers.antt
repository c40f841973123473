use Rattle.std.proofs.lemmas.Result.{err_from_is_err_and}
use Rattle.palp_input.specs.Grammar.{listed}
use Rattle.nef_report.proofs.ListingSteps.{parts_stopped}
use Rattle.nef_report.proofs.listing.list_within.Goals as goal

pub returns-in_err-parts_limits : goal.returns-in_err-parts_limits
returns-in_err-parts_limits g c =
    let e = err_from_is_err_and c.from_residual.result c.from_residual.ensures.1 in
    rw e.1 (parts_stopped c.args.words.now (listed c.args.item.now) _ c.args.pair.now c.requires.pair c.in_err-parts_limits.field-0.0 e.0
    c.in_err-parts_limits.ensures e.2)
