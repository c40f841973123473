-- A write that took some bytes leaves the ones behind them.
use Rattle.std.proofs.Common.{arith}
use Rattle.palp_io.proofs.StreamLemmas.{Written-more}
use Rattle.palp_io.proofs.streams.write_whole.Goals as goal

pub loop-rest-preserved : goal.loop-rest-preserved
loop-rest-preserved g c =
    Written-more _ _ _ _ _ c.in-Ok.count _ (omega arith) c.loop-rest.invariant c.in-Ok.ensures.bytes
