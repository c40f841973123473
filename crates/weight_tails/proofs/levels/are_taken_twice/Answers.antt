use Rattle.std.proofs.Common.{◌≡◌, ◌∙◌, ◌⊎◌, inl, inr, ◌+◌, ◌-◌, ◌<◌, ◌≤◌, length, sym, subst, arith}
use Rattle.std.proofs.lemmas.Bool.{cases_lt, false≢true}
use Rattle.weight_tails.specs.steps.Levels.{TakesTwice}
use Rattle.weight_tails.proofs.levels.are_taken_twice.Goals as goal

pub loop-i-preserved : goal.loop-i-preserved
loop-i-preserved c j within there = by (cases_lt (j + c.loop-i.i) (length c.args.weights.now))
  where
    by : (j + c.loop-i.i < length c.args.weights.now) ⊎ (length c.args.weights.now ≤ j + c.loop-i.i) → TakesTwice c.args.degree c.args.weights.now j
    by (inl h) =
        let same : length c.args.weights.now - 1 - c.loop-i.i ≡ j = omega (arith, h, there) in
        subst (TakesTwice c.args.degree c.args.weights.now) same (c.is_taken_twice.ensures.0 c.if-not-is_taken_twice.false)
    by (inr h) = c.loop-i.invariant j within h

pub returns-then-not-is_taken_twice : goal.returns-then-not-is_taken_twice
returns-then-not-is_taken_twice c = (
  length c.args.weights.now - 1 - c.loop-i.i,
  (omega arith, λ takes. false≢true (sym c.if-not-is_taken_twice.true ∙ c.is_taken_twice.ensures.1 takes)),
)
