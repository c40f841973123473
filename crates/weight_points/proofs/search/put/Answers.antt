use Rattle.weight_points.proofs.Weighing.{put_ready}
use Rattle.weight_points.proofs.search.put.Goals as goal

pub returns-clause-ready : goal.returns-clause-ready
returns-clause-ready c = rw c.spend.ensures
    (put_ready c.args.rows.now c.args.entries.now c.args.place c.args.value c.requires.ready c.requires.place c.requires.zero
    c.requires.affordable)
