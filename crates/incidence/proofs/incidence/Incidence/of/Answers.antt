use Rattle.face_theory.specs.Pairings.{valued}
use Rattle.incidence.proofs.Telling.{is_told}
use Rattle.incidence.proofs.incidence.Incidence.of.Goals as goal

pub returns : goal.returns
returns c = is_told c.args.pool.now c.push_members.new.pool c.push_functions.new.pool c.in_ok-incidence.incidence
    (valued c.args.points.now c.args.functions.now) c.in_ok-incidence.ensures
    c.push_members.ensures c.push_functions.ensures

pub push_members-requires-clause-most : goal.push_members-requires-clause-most
push_members-requires-clause-most c = c.in_ok-incidence.ensures.few_functions

pub push_functions-requires-clause-most : goal.push_functions-requires-clause-most
push_functions-requires-clause-most c = c.in_ok-incidence.ensures.few_members
