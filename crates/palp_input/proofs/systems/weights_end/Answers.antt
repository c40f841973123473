use Rattle.std.proofs.Common.{◌≡◌, ℕ, length, subst, arith}
use Rattle.palp_input.specs.SystemSteps.{TakesUpTo}
use Rattle.palp_input.specs.declared.lines.LineNumber.{LineNumber}
use Rattle.palp_input.proofs.WeightLines.{weight_more, weights_stop, weights_exceed, weights_all, weights_short}
use Rattle.palp_input.proofs.systems.weights_end.Goals as goal

none : LineNumber
none = record { at = 0; value = 0 }

pub returns-then-left-eq0 : goal.returns-then-left-eq0
unfolding none
returns-then-left-eq0 c =
    weights_stop c.args.numbers.now c.args.from c.args.degree c.loop-place.left c.loop-place.place none c.loop-place.invariant
    c.loop-place.auto.place c.loop-place-test.true c.if-weight-left.true c.if-left-eq0.true

pub returns-else-left-eq0 : goal.returns-else-left-eq0
unfolding none
returns-else-left-eq0 c =
    weights_exceed c.args.numbers.now c.args.from c.args.degree c.loop-place.left c.loop-place.place none c.loop-place.invariant
    c.loop-place-test.true c.if-weight-left.true (omega arith)

pub loop-place-preserved : goal.loop-place-preserved
unfolding none
loop-place-preserved c =
    weight_more c.args.numbers.now c.args.from c.args.degree c.loop-place.left c.loop-place.place none c.loop-place.invariant
    c.loop-place.auto.place c.loop-place-test.true c.if-weight-left.false

pub returns-then-left-eq0-2 : goal.returns-then-left-eq0-2
unfolding none
returns-then-left-eq0-2 c =
    let all : c.loop-place.place ≡ length c.args.numbers.now = omega arith in
    subst (λ (p : ℕ). TakesUpTo c.args.numbers.now c.args.from c.args.degree p) all
    (weights_all c.args.numbers.now c.args.from c.args.degree c.loop-place.left c.loop-place.place none c.loop-place.invariant
    c.loop-place.auto.place all c.if-left-eq0-2.true)

pub returns-else-left-eq0-2 : goal.returns-else-left-eq0-2
unfolding none
returns-else-left-eq0-2 c =
    let all : c.loop-place.place ≡ length c.args.numbers.now = omega arith in
    weights_short c.args.numbers.now c.args.from c.args.degree c.loop-place.left c.loop-place.place none c.loop-place.invariant
    all (omega arith)
