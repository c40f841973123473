use Rattle.std.proofs.Common.{SFits, rules, ◌∙◌, sym}
use Rattle.std.specs.Int.{w128}
use Rattle.std.proofs.lemmas.Int.{to_z-of_z}
use Rattle.hull_growth.proofs.RowBits.{row_turn}
use Rattle.hull_growth.proofs.rows.corner_row.Goals as goal

pub loop-i-preserved : goal.loop-i-preserved
loop-i-preserved c =
    let fits : SFits w128 c.at.result = search rules in
    let set = simp to_z-of_z at c.row_with-row.ensures.set in
    let same = simp to_z-of_z at c.row_with-row.ensures.same in
    row_turn c.args.corners.now c.args.f.now c.loop-i.i c.index-corners-i.result c.loop-i.row c.row_with-row.result
    c.loop-i-test.true c.index-corners-i.is c.loop-i.invariant (λ z l. set (c.at.ensures ∙ z) l)
    (λ u. same (λ z. u (sym c.at.ensures ∙ z))) c.row_with-row.ensures.full
