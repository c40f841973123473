use Rattle.weight_points.proofs.Weighing.{clear_ready, returnable_row, exponent_small}
use Rattle.std.proofs.Common.{get_or}
use Rattle.weight_points.proofs.search.clear.Goals as goal

pub give_back-requires-clause-returnable : goal.give_back-requires-clause-returnable
give_back-requires-clause-returnable c = λ k d h. returnable_row (get_or c.args.rows.now k d) c.args.entries.now c.args.place
    (c.requires.ready.each k d h) c.requires.place

pub returns-clause-ready : goal.returns-clause-ready
returns-clause-ready c = rw c.give_back.ensures
    (clear_ready c.args.rows.now c.args.entries.now c.args.place c.requires.ready c.requires.place)

pub returns-clause-bound : goal.returns-clause-bound
returns-clause-bound c = exponent_small c.args.rows.now c.args.entries.now c.args.place c.requires.ready c.requires.place
