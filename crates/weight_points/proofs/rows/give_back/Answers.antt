use Rattle.std.proofs.Common.{◌≡◌, ◌∙◌, ◌<◌, List, length, get_or, arith, sym, ap, subst}
use Rattle.std.proofs.lemmas.List.{get_or_default}
use Rattle.std.proofs.lemmas.List.Edits.{map_over_more}
use Rattle.weight_points.specs.declared.rows.Row.{Row}
use Rattle.weight_points.specs.steps.Rows.{HasPlace, weight_at, returning}
use Rattle.weight_points.proofs.Writing.{unreached}
use Rattle.weight_points.proofs.rows.give_back.Goals as goal

pub loop-row-preserved : goal.loop-row-preserved
loop-row-preserved c =
    let place = c.args.place in
    let rows = c.loop-row.rows in
    let old = c.args.rows.now in
    let i = c.loop-row.row-index in
    let f = returning place c.args.value in
    let row = get_or rows i c.row-item.result in
    let there : row ≡ get_or old i c.row-item.result = ap (λ (rs : List Row). get_or rs i c.row-item.result) c.loop-row.invariant
    ∙ unreached f old i c.row-item.result in
    let has : HasPlace place row = subst (HasPlace place) (sym there) (c.requires.places i c.row-item.result c.loop-row-test.true) in
    let weight : c.index.result.now ≡ weight_at row place =
    c.index.ensures ∙ get_or_default row.system.weights.items place _ 0 has.weight in
    let within : i < length rows = omega arith in
    rw weight (map_over_more f old rows i row c.loop-row-test.true c.loop-row.invariant
    (get_or_default rows i c.row-item.result row within))
