-- What was written so far and the rest are the piece, and the rest gets shorter.
use Rattle.std.proofs.Common.{length}
use Rattle.palp_io.proofs.StreamLemmas.{Written}
use Rattle.palp_io.proofs.streams.write_whole.Given as goal

abbrev pub invariant-loop-rest : goal.invariant-loop-rest
invariant-loop-rest g l =
    Written l.fn.piece l.rest (g.W.Write.contents l.fn.writer) (g.W.Write.contents l.writer)

abbrev pub decreases-loop-rest : goal.decreases-loop-rest
decreases-loop-rest g l = length l.rest
