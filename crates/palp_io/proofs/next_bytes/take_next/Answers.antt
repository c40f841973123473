-- The place moves up by the bytes that were copied.
use Rattle.std.proofs.Common.{arith}
use Rattle.std.proofs.lemmas.Grind.{common_steps}
use Rattle.palp_io.proofs.SourceLemmas.{PassesBytes-advance}
use Rattle.palp_io.proofs.next_bytes.take_next.Goals as goal

pub returns-clause-passes : goal.returns-clause-passes
returns-clause-passes c =
    PassesBytes-advance c.args.bytes.now c.args.position.now c.min-count.result _ (grind (arith, common_steps))
