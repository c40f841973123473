use Rattle.std.proofs.Common.{subst}
use Rattle.std.proofs.lemmas.Result.{err_from_is_err_and}
use Rattle.palp_input.specs.Grammar.{listed}
use Rattle.dual_pair.specs.declared.pair.Kind.{Kind}
use Rattle.item_polytopes.specs.Kinds.{IsKind}
use Rattle.nef_report.proofs.ListingSteps.{kind_stopped, body_told}
use Rattle.nef_report.proofs.listing.list_partitions.Goals as goal

pub returns-in_err-polytope : goal.returns-in_err-polytope
returns-in_err-polytope g c =
    let e = err_from_is_err_and c.from_residual.result c.from_residual.ensures.1 in
    rw e.1 (kind_stopped c.args.words.now (listed c.args.item.now) _ c.in_err-polytope.field-0.0 e.0 c.in_err-polytope.ensures e.2)

pub returns-in-Other : goal.returns-in-Other
returns-in-Other g c = body_told c.args.words.now (listed c.args.item.now) _ c.in-Other.polytope _ c.give_body.result
    (subst (λ (k : Kind). IsKind (listed c.args.item.now) k) c.in-Other.is c.in_ok-polytope.ensures) c.give_body.ensures
