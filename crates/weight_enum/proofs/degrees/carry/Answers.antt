use Rattle.std.proofs.Common.{refl, arith}
use Rattle.weight_enum.proofs.LevelBeginnings.{alike_same, serves_next, more_levels}
use Rattle.weight_enum.proofs.degrees.carry.Goals as goal

pub returns-then-place-weights-clause-serve : goal.returns-then-place-weights-clause-serve
returns-then-place-weights-clause-serve c =
    let within = c.requires.place in
    serves_next c.args.place c.args.weights.now c.args.levels.now c.add_weight.new.levels c.add_weight.ensures.columns c.add_weight.ensures.alike
    c.requires.serve (λ h. more_levels c.args.place c.args.weights.now c.args.levels.now c.add_weight.new.levels within c.add_weight.ensures.levels
    (c.requires.serve c.args.place (omega arith) within))

pub returns-else-place-weights-clause-serve : goal.returns-else-place-weights-clause-serve
returns-else-place-weights-clause-serve c =
    serves_next c.args.place c.args.weights.now c.args.levels.now c.args.levels.now refl (alike_same c.args.place c.args.levels.now) c.requires.serve
    (λ h. absurd (omega (arith, h)))
