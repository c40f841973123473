use Rattle.std.proofs.Common.{◌≡◌, ℕ, suc, ◌-◌, ◌≤◌, get_or, sym, subst, refl, arith}
use Rattle.std.proofs.lemmas.Bool.{false≢true}
use Rattle.weight_enum.proofs.Ascending.{ascends_from_steps, steps_from_ascends, one_step_more}
use Rattle.weight_enum.proofs.weights.is_ascending.Goals as goal

pub loop-i-init : goal.loop-i-init
loop-i-init c = λ j h. absurd (omega (arith, h))

pub loop-i-preserved : goal.loop-i-preserved
loop-i-preserved c = one_step_more c.args.weights.now c.loop-i.i (omega arith) c.loop-i.invariant (omega arith)

pub returns-then-weights-i : goal.returns-then-weights-i
returns-then-weights-i c = (
  λ e. absurd (false≢true e),
  λ a. let i = c.loop-i.i in
      let descends = c.if-weights-i.true in
      let next : i ≡ suc (i - 1) = omega arith in
      let step = steps_from_ascends c.args.weights.now a (i - 1) (omega arith) in
      let step' = subst (λ (k : ℕ). get_or c.args.weights.now (i - 1) 0 ≤ get_or c.args.weights.now k 0) (sym next) step in
      absurd (omega (arith, descends, step')),
)

pub returns : goal.returns
returns c = (
  λ e. ascends_from_steps c.args.weights.now (λ j h. c.loop-i.invariant j (omega (arith, h))),
  λ a. refl,
)
