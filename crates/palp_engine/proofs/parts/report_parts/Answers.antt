use Rattle.std.proofs.lemmas.Result.{err_from_is_err_and}
use Rattle.palp_input.specs.Grammar.{listed}
use Rattle.palp_engine.proofs.PartSteps.{parts_given, parts_stopped}
use Rattle.palp_engine.proofs.parts.report_parts.Goals as goal

pub returns-in_err-list_partitions : goal.returns-in_err-list_partitions
returns-in_err-list_partitions g c =
    let e = err_from_is_err_and c.from_residual.result c.from_residual.ensures.1 in
    rw e.1 (parts_stopped c.args.words.now (listed c.args.item.now) _ _ c.in_err-list_partitions.field-0.0 e.0
    c.in_err-list_partitions.ensures e.2)

pub returns : goal.returns
returns g c = parts_given c.args.words.now (listed c.args.item.now) _ _ c.in_ok-list_partitions.ensures
