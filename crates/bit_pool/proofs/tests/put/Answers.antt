use Rattle.bit_pool.proofs.Named.{pushed_width, pushed_turns}
use Rattle.bit_pool.proofs.tests.put.Goals as goal

pub returns-clause-width : goal.returns-clause-width
returns-clause-width g c = pushed_width c.args.pool.now c.push.new.self c.args.words.now c.push.result c.push.ensures

pub returns-clause-turns : goal.returns-clause-turns
returns-clause-turns g c = pushed_turns c.args.pool.now c.push.new.self c.args.words.now c.push.result c.push.ensures
