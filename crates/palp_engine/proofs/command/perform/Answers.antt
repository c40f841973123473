use Rattle.palp_engine.proofs.ListRuns.{cws_range, sweep_range, cws_performed, sweep_performed}
use Rattle.palp_engine.proofs.command.perform.Goals as goal

pub list_systems-requires : goal.list_systems-requires
list_systems-requires g c = cws_range c.args.job.now c.in-Cws.words c.in-Cws.is c.requires.given

pub sum_up-requires : goal.sum_up-requires
sum_up-requires g c = sweep_range c.args.job.now c.in-Sweep.words c.in-Sweep.is c.requires.given

pub returns-in-Cws : goal.returns-in-Cws
returns-in-Cws g c = cws_performed c.args.job.now c.in-Cws.words c.in-Cws.is _ _ _ c.list_systems.result c.list_outcome.result
    c.list_outcome.ensures c.list_systems.ensures

pub returns-in-Sweep : goal.returns-in-Sweep
returns-in-Sweep g c = sweep_performed c.args.job.now c.in-Sweep.words c.in-Sweep.is _ _ _ c.sum_up.result c.list_outcome-in-Sweep.result
    c.list_outcome-in-Sweep.ensures c.sum_up.ensures
