-- Once a take of the reader has answered the end, the source has ended.
use Rattle.palp_io.specs.Memory.{source_state}
use Rattle.palp_input.specs.Reading.{IsHanded}
use Rattle.palp_input.proofs.tests.read_all.Given as goal

abbrev pub invariant-loop-count : goal.invariant-loop-count
invariant-loop-count l = IsHanded l.reader (source_state l.source)
