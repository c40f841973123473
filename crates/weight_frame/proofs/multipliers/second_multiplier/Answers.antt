use Rattle.std.proofs.Common.{pos, SFits, w64, arith, rules}
use Rattle.std.specs.Int.{w128}
use Rattle.std.proofs.lemmas.Int.{ints, to_z-of_z}
use Rattle.weight_frame.proofs.Bounds.{second_exact}
use Rattle.weight_frame.proofs.multipliers.second_multiplier.Goals as goal

pub returns : goal.returns
returns c =
    let v : SFits w64 c.args.value = c.ranges.value in
    let u : SFits w128 c.from.result = search rules in
    let left : SFits w128 c.left_beside.result = search rules in
    simp to_z-of_z (second_exact c.left_beside.result _ (pos c.args.after) c.from.result (simp to_z-of_z at c.left_beside.ensures.left)
    c.from.ensures left (omega (arith, ints)))
