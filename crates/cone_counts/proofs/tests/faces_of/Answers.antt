use Rattle.std.proofs.Common.{arith}
use Rattle.incidence.proofs.Held.{made_is_held_lem}
use Rattle.cone_counts.proofs.tests.faces_of.Goals as goal

pub build-requires-clause-held : goal.build-requires-clause-held
build-requires-clause-held c =
    let w = c.in_ok-pool.ensures.width_is in
    let r = c.rays.ensures in
    let f = c.functions.ensures in
    let a = c.if-rays-gt64.false in
    let b = c.if-functions-gt64.false in
    (made_is_held_lem c.in_ok-pool.pool c.incidence.new.pool c.in_ok-incidence.incidence _ (omega (arith, w, r, a)) (omega (arith, w, f, b)) c.in_ok-incidence.ensures).0

pub returns-in-Ok : goal.returns-in-Ok
returns-in-Ok c = c.in-Ok.ensures.built.1 _ c.in_ok-incidence.ensures.tells
