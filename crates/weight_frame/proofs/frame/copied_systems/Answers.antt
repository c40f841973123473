use Rattle.std.proofs.Common.{refl}
use Rattle.weight_frame.proofs.Usable.{copied_more, same_numbers, same_system}
use Rattle.weight_frame.proofs.frame.copied_systems.Goals as goal

pub loop-system-preserved : goal.loop-system-preserved
loop-system-preserved c =
    let system = c.system-item.result in
    let weights = same_numbers system.weights.items c.in_ok-clone.field-0.items c.in_ok-clone.ensures.cases.0 in
    copied_more c.args.systems.now c.loop-system.copies.items c.push.new.self.items c.loop-system.system-index system _
    c.loop-system-test.true c.system-item.is
    (same_system system (record { degree = system.degree; weights = c.in_ok-clone.field-0 }) refl weights)
    c.in_ok-push.ensures.items c.loop-system.invariant
