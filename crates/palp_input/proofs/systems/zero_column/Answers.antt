use Rattle.std.proofs.Common.{◌+◌, Bool, cond, List, map, drop, get_or, Some, sym, ap, ◌∙◌}
use Rattle.std.proofs.lemmas.List.{drop_more}
use Rattle.palp_input.specs.Systems.{zero_column}
use Rattle.palp_input.specs.SystemSteps.{placed_of}
use Rattle.palp_input.specs.declared.lines.LineNumber.{LineNumber}
use Rattle.palp_input.proofs.systems.zero_column.Goals as goal

none : LineNumber
none = record { at = 0; value = 0 }

pub loop-place-preserved : goal.loop-place-preserved
loop-place-preserved c =
    let first = c.args.first.now in
    let place = c.loop-place.place in
    let systems = map placed_of c.args.systems.now in
    c.loop-place.invariant
    ∙ ap (λ (ns : List LineNumber). zero_column place ns systems) (drop_more first place none c.loop-place-test.true)
    ∙ ap (λ (b : Bool). cond b (Some (get_or first place none).at) (zero_column (place + 1) (drop (place + 1) first) systems))
    (sym c.is_zero_column.ensures ∙ c.if-is_zero_column.false)
