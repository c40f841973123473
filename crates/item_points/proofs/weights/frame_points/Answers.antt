use Rattle.lattice_core.specs.Weights.{weighted_all}
use Rattle.item_points.proofs.LineNumbers.{numbers_within}
use Rattle.item_points.proofs.WeightWalks.{frame_stops}
use Rattle.item_points.proofs.weights.frame_points.Goals as goal

pub frame_of-requires-clause-limited : goal.frame_of-requires-clause-limited
frame_of-requires-clause-limited c = numbers_within (weighted_all c.args.systems.now) c.requires.numbers

pub returns-in-Err : goal.returns-in-Err
returns-in-Err c = frame_stops (weighted_all c.args.systems.now) c.in-Err.fault c.frame_fault.result c.requires.numbers
    c.in-Err.ensures.fault c.frame_fault.ensures

pub returns : goal.returns
returns c = rw c.in-Ok.ensures.systems at c.walk.ensures
