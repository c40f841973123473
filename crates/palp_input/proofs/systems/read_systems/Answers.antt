use Rattle.std.proofs.Common.{refl}
use Rattle.palp_input.specs.declared.lines.LineNumber.{LineNumber}
use Rattle.palp_input.proofs.WeightLines.{systems_wrong, systems_more, systems_end}
use Rattle.palp_input.proofs.systems.read_systems.Goals as goal

none : LineNumber
none = record { at = 0; value = 0 }

pub returns-in_default : goal.returns-in_default
unfolding none
returns-in_default c =
    systems_wrong c.args.numbers.now c.loop-place.place c.loop-place.systems.items none c.loop-place.invariant c.loop-place-test.true
    c.in_default.ensures

pub loop-place-preserved : goal.loop-place-preserved
unfolding none
loop-place-preserved c =
    systems_more c.args.numbers.now c.loop-place.place c.loop-place.systems.items none c.loop-place.invariant c.loop-place-test.true
    c.in-Some.end _ c.push.new.self.items c.in-Some.ensures
    refl
    c.in_ok-push.ensures.items

pub returns : goal.returns
returns c = systems_end c.args.numbers.now c.loop-place.place c.loop-place.systems.items c.loop-place.invariant c.loop-place-test.false
