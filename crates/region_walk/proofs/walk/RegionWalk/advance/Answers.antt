use Rattle.std.proofs.Common.{true, subst}
use Rattle.region_walk.specs.Regions.{levels_of}
use Rattle.region_walk.specs.steps.Beginnings.{Steps}
use Rattle.region_walk.proofs.Walking.{none_after, step_begins, run_next, none_next}
use Rattle.region_walk.proofs.walk.RegionWalk.advance.Goals as goal
use Rattle.region_walk.proofs.walk.RegionWalk.advance.Goals.{Else-not-step}

-- the step was made
steps : (c : Else-not-step) → Steps c.args.self.now.beginning.entries.items c.args.self.now.beginning.ends.items
    c.step.new.self.entries.items c.step.new.self.ends.items true
steps c =
    let beginning = c.args.self.now.beginning in
    subst (λ b. Steps beginning.entries.items beginning.ends.items c.step.new.self.entries.items c.step.new.self.ends.items b)
    c.if-not-step.false c.step.ensures

pub returns-then-not-step-clause-next : goal.returns-then-not-step-clause-next
returns-then-not-step-clause-next c =
    let self = c.args.self.now in
    let beginning = self.beginning in
    none_after self.region.low self.region.high (levels_of self.region) c.requires.sound beginning.entries.items beginning.ends.items
    c.requires.opened self.run.low self.run.high c.requires.run c.step.new.self.entries.items c.step.new.self.ends.items
    (subst (λ b. Steps beginning.entries.items beginning.ends.items c.step.new.self.entries.items c.step.new.self.ends.items b)
    c.if-not-step.true c.step.ensures)

pub find_run-requires-clause-open : goal.find_run-requires-clause-open
find_run-requires-clause-open c =
    let self = c.args.self.now in
    step_begins self.region.low self.region.high (levels_of self.region) c.requires.sound self.beginning.entries.items
    self.beginning.ends.items c.requires.opened self.run.low self.run.high c.requires.run c.step.new.self.entries.items
    c.step.new.self.ends.items (steps (goal.at.find_run-requires-clause-open c).Else-not-step)

pub returns-in-Some-clause-next : goal.returns-in-Some-clause-next
returns-in-Some-clause-next c =
    let self = c.args.self.now in
    run_next self.region.low self.region.high (levels_of self.region) c.requires.sound self.beginning.entries.items
    self.beginning.ends.items c.requires.opened self.run.low self.run.high c.requires.run c.step.new.self.entries.items
    c.step.new.self.ends.items (steps (goal.at.returns-in-Some-clause-next c).Else-not-step) c.find_run.new.beginning.entries.items
    c.find_run.new.beginning.ends.items c.in-Some.run'.low c.in-Some.run'.high c.in-Some.ensures.some

pub returns-in-None-clause-next : goal.returns-in-None-clause-next
returns-in-None-clause-next c =
    let self = c.args.self.now in
    none_next self.region.low self.region.high (levels_of self.region) c.requires.sound self.beginning.entries.items
    self.beginning.ends.items c.requires.opened self.run.low self.run.high c.requires.run c.step.new.self.entries.items
    c.step.new.self.ends.items (steps (goal.at.returns-in-None-clause-next c).Else-not-step) c.in-None.ensures.none
