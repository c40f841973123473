use Rattle.std.proofs.Common.{◌+◌, List, [], ℤ, sym, ◌∙◌, subst}
use Rattle.std.proofs.lemmas.List.{get_or_default}
use Rattle.nef_parts.specs.steps.Rows.{IsPairable, IsPairings, ArePairings}
use Rattle.nef_parts.proofs.RowSteps.{rows_more}
use Rattle.nef_parts.proofs.pairings.all_pairings.Goals as goal

pub pairings_of-requires : goal.pairings_of-requires
pairings_of-requires c =
    subst (IsPairable c.args.normals.now) (sym c.index-points-p.is) (c.requires c.loop-p.p c.index-points-p.result c.loop-p-test.true)

pub loop-p-preserved : goal.loop-p-preserved
loop-p-preserved c =
    let normals = c.args.normals.now in
    let points = c.args.points.now in
    let p = c.loop-p.p in
    let x = c.index-points-p.result in
    subst (ArePairings (p + 1) normals points) (sym c.in_ok-push.ensures.items)
    (rows_more p normals points c.loop-p.rows.items c.pairings_of.result c.loop-p.invariant
    (subst (λ (y : List ℤ). IsPairings normals y c.pairings_of.result) (c.index-points-p.is ∙ get_or_default points p x [] c.loop-p-test.true)
    c.pairings_of.ensures))
