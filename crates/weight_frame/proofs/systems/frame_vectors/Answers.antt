use Rattle.std.proofs.Common.{◌+◌, length, take, drop}
use Rattle.lattice_core.specs.Weights.{weighted, weighted_all, columns_of}
use Rattle.weight_frame.proofs.Reaching.{next_reached, next_exceeds}
use Rattle.weight_frame.proofs.Usable.{usable_at, split_systems, more_systems}
use Rattle.weight_frame.proofs.systems.frame_vectors.Goals as goal

pub exchanged-requires-clause-usable : goal.exchanged-requires-clause-usable
exchanged-requires-clause-usable c = let u =
    usable_at c.args.systems.now c.loop-system.system-index c.system-item.result c.loop-system-test.true c.system-item.is c.requires.formed
    c.requires.limited in rw u.columns u

pub exchanged-requires-clause-columns : goal.exchanged-requires-clause-columns
exchanged-requires-clause-columns c = let u =
    usable_at c.args.systems.now c.loop-system.system-index c.system-item.result c.loop-system-test.true c.system-item.is c.requires.formed
    c.requires.limited in rw u.columns c.requires.limited.weights

pub exchanged-requires-clause-small : goal.exchanged-requires-clause-small
exchanged-requires-clause-small c = let u =
    usable_at c.args.systems.now c.loop-system.system-index c.system-item.result c.loop-system-test.true c.system-item.is c.requires.formed
    c.requires.limited in rw (u.columns, c.as_slice.ensures.value) c.loop-system.invariant.small

pub returns-in-Err : goal.returns-in-Err
returns-in-Err c =
    let systems = c.args.systems.now in
    let i = c.loop-system.system-index in
    let system = c.system-item.result in
    let u = usable_at c.args.systems.now c.loop-system.system-index c.system-item.result c.loop-system-test.true c.system-item.is
    c.requires.formed c.requires.limited in
    next_exceeds (weighted_all systems) (weighted_all (take i systems)) (weighted_all (drop (i + 1) systems)) (weighted system)
    (length system.weights.items) c.loop-system.vectors.items c.as_slice.result.now c.in-Err.told u.columns c.as_slice.ensures.value
    (split_systems systems i system c.loop-system-test.true c.system-item.is) c.loop-system.invariant c.in-Err.ensures

pub loop-system-preserved : goal.loop-system-preserved
loop-system-preserved c =
    let systems = c.args.systems.now in
    let i = c.loop-system.system-index in
    let system = c.system-item.result in
    let u = usable_at c.args.systems.now c.loop-system.system-index c.system-item.result c.loop-system-test.true c.system-item.is
    c.requires.formed c.requires.limited in
    let reached = c.in-Ok.reached in
    next_reached (columns_of (weighted_all systems)) (length system.weights.items) (weighted_all (take i systems))
    (weighted_all (take (i + 1) systems)) (weighted system) c.loop-system.vectors.items c.as_slice.result.now reached.kept.items
    reached.last reached.divisor
    u.columns c.as_slice.ensures.value (more_systems systems i system c.loop-system-test.true c.system-item.is) c.loop-system.invariant
    c.in-Ok.ensures
