use Rattle.std.proofs.Common.{◌≡◌, ◌∙◌, ℕ, ◌-◌, length, take, subst, arith}
use Rattle.weight_tails.specs.steps.Levels.{AreLevels}
use Rattle.weight_enum.proofs.LevelBeginnings.{more_levels}
use Rattle.weight_enum.proofs.interior.add_front.Goals as goal

pub loop-count-preserved : goal.loop-count-preserved
loop-count-preserved c =
    let columns = c.loop-count.invariant.columns in
    record {
      columns = c.add_weight.ensures.columns ∙ columns;
      levels = more_levels c.loop-count.count c.args.weights.now c.loop-count.levels c.add_weight.new.levels (omega arith) c.add_weight.ensures.levels
          c.loop-count.invariant.levels;
    }

pub returns-clause-levels : goal.returns-clause-levels
returns-clause-levels c =
    let past : c.loop-count.count ≡ length c.args.weights.now - 1 = omega arith in
    subst (λ (k : ℕ). AreLevels (take k c.args.weights.now) c.loop-count.levels) past c.loop-count.invariant.levels
