use mir.Syntax.{w64}
use mir.Val.{SFits}
use Rattle.std.proofs.Common.{◌≡◌, ◌∙◌, ap, ℤ, pos, ◌-ℤ◌, ◌≤ℤ◌, List, get_or, rules}
use Rattle.std.proofs.lemmas.Int.{to_z-of_z}
use Rattle.std.proofs.lemmas.List.{get_or_default}
use Rattle.std.proofs.lemmas.List.Edits.{map_over_more}
use Rattle.weight_points.proofs.Writing.{unreached}
use Rattle.item_points.proofs.weights.shift.Goals as goal

pub loop-entry-preserved : goal.loop-entry-preserved
loop-entry-preserved c =
    let old = c.args.member.now in
    let items = c.loop-entry.entry-items in
    let i = c.loop-entry.entry-index in
    let within = c.loop-entry-test.true in
    let f = λ (e : ℤ). e -ℤ pos 1 in
    let x = get_or items i (pos 0) in
    let there : x ≡ get_or old i (pos 0) = ap (λ (xs : List ℤ). get_or xs i (pos 0)) c.loop-entry.invariant ∙ unreached f old i (pos 0) in
    let least : pos 0 ≤ℤ x = rw there (c.requires i (pos 0) within) in
    let fits : SFits w64 x = search rules in
    let less : SFits w64 (x -ℤ pos 1) = search rules in
    rw (to_z-of_z w64 x fits, to_z-of_z w64 (x -ℤ pos 1) less)
    (map_over_more f old items i x within c.loop-entry.invariant
    (get_or_default items i (pos 0) x (rw c.loop-entry.auto.entry-items within)))
