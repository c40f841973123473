use Rattle.std.proofs.Common.{◌≤◌, arith}
use Rattle.incidence.specs.Incidences.{tabled}
use Rattle.incidence.proofs.Held.{made_is_held_lem}
use Rattle.face_poset.proofs.tests.built.Goals as goal

pub build-outcome-requires-clause-held : goal.build-outcome-requires-clause-held
build-outcome-requires-clause-held c =
    let w = c.in_ok-pool.ensures.width_is in
    let m = c.requires.most_members in
    let f = c.requires.most_functions in
    (made_is_held_lem c.in_ok-pool.pool c.from_table.new.pool c.in_ok-incidence.incidence (tabled c.args.members c.args.functions c.args.tight.now)
    (omega arith) (omega arith) c.in_ok-incidence.ensures).0
