use Rattle.std.proofs.Common.{arith}
use Rattle.std.proofs.lemmas.List.{take_all}
use Rattle.weight_certificates.proofs.Sums.{chosen_column_small}
use Rattle.weight_certificates.proofs.columns.chosen_column.Goals as goal

pub returns-clause-small : goal.returns-clause-small
returns-clause-small c =
    let all = take_all c.loop-corner.corner-index c.args.corners.now (omega arith) in
    rw (rw all at c.loop-corner.invariant)
    (chosen_column_small c.args.points.now c.args.j c.args.corners.now c.requires.small c.requires.within c.requires.few)
