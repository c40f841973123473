use Rattle.std.proofs.Common.{◌≡◌, ◌∙◌, ◌<◌, length, subst, arith}
use Rattle.std.proofs.Math.ListN.{length-set}
use Rattle.weight_tails.proofs.LevelSteps.{AreMade, later_step, alike_step, made_step, levels_made}
use Rattle.weight_tails.proofs.levels.add_weight.Goals as goal

pub loop-number-preserved : goal.loop-number-preserved
loop-number-preserved c =
    let old = c.args.levels.now in
    let now = c.loop-number.levels in
    let number = c.loop-number.number in
    let x = c.next_level.result in
    let columns = c.loop-number.invariant.columns in
    let within : number < length old = omega (arith, columns) in
    record {
      columns = length-set now number x ∙ columns;
      later = later_step c.args.count c.args.weight number x old now within columns c.loop-number.invariant.later;
      alike = alike_step c.args.count c.args.weight number x old now within columns c.loop-number.invariant.later c.next_level.ensures.alike
          c.loop-number.invariant.alike;
      made = made_step c.args.count c.args.weight number x old now within columns c.requires.positive c.loop-number.invariant.later
          c.next_level.ensures.enough c.loop-number.invariant.made;
    }

pub returns-clause-levels : goal.returns-clause-levels
returns-clause-levels c =
    let old = c.args.levels.now in
    let new = c.loop-number.levels in
    let columns = c.loop-number.invariant.columns in
    let past : c.loop-number.number ≡ length old = omega (arith, columns) in
    levels_made c.args.count c.args.weight old new columns c.loop-number.invariant.alike
    (subst (AreMade c.args.count c.args.weight old new) past c.loop-number.invariant.made)
