use Rattle.std.proofs.Common.{arith}
use Rattle.incidence.proofs.Held.{made_is_held_lem}
use Rattle.stringy.proofs.tests.triangle.triangle.Goals as goal

pub build-requires-clause-held : goal.build-requires-clause-held
build-requires-clause-held c =
    let w = c.in_ok-pool.ensures.width_is in
    (made_is_held_lem c.in_ok-pool.pool c.from_table.new.pool c.in_ok-incidence.incidence _ (omega arith) (omega arith) c.in_ok-incidence.ensures).0

pub returns-clause-faces : goal.returns-clause-faces
returns-clause-faces c = (_, c.in-Ok.ensures.built.1 _ c.in_ok-incidence.ensures.tells)

pub returns-clause-ranks : goal.returns-clause-ranks
returns-clause-ranks c k d l = let m = c.top_rank.ensures.most k d l in let t = c.if-top_rank-gt3.false in omega arith
