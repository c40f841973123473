-- A reader that has taken nothing hands nothing on, and each call keeps that the source has ended.
use Rattle.std.proofs.Common.{rules}
use Rattle.palp_input.proofs.tests.read_all.Goals as goal

pub loop-count-init : goal.loop-count-init
loop-count-init c = λ e. search rules

pub next_item-requires-clause-handed : goal.next_item-requires-clause-handed
next_item-requires-clause-handed c = c.loop-count.invariant

pub loop-count-preserved : goal.loop-count-preserved
loop-count-preserved c = c.next_item.ensures.handed
