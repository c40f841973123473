use Rattle.std.proofs.Common.{refl, sym, ◌∙◌, subst, rules, SFits}
use Rattle.std.specs.Int.{w128}
use Rattle.std.proofs.lemmas.Int.{to_z-of_z}
use Rattle.hull.specs.steps.Facing.{IsTurned}
use Rattle.hull.proofs.SimplexExchange.{combination_turns}
use Rattle.hull.proofs.simplex.turned.Goals as goal

pub returns-then-is_zero : goal.returns-then-is_zero
returns-then-is_zero c =
    let fits : SFits w128 c.at-distance.result = search rules in
    let zero = simp to_z-of_z at (c.is_zero.ensures.0 c.if-is_zero.true) in
    subst (IsTurned c.args.f.now c.args.axis.now c.args.p.now) (sym c.copied.ensures) (record {
      dimension = c.requires.function.dimension;
      primitive = c.requires.primitive;
      vanishes = sym c.at-distance.ensures ∙ zero;
      zeros = λ x z y. y;
      positive = λ x z y. y;
    })

pub returns-then-is_positive : goal.returns-then-is_positive
returns-then-is_positive c = combination_turns _ c.args.f.now c.args.axis.now c.args.opposed.now c.combine.result c.args.p.now
    c.requires.function.dimension c.requires.second.dimension refl c.requires.together c.combine.ensures

pub returns-else-is_positive : goal.returns-else-is_positive
returns-else-is_positive c = combination_turns _ c.args.f.now c.args.axis.now c.args.axis.now c.combine-else-is_positive.result c.args.p.now
    c.requires.function.dimension c.requires.first.dimension refl (λ x z. z) c.combine-else-is_positive.ensures
