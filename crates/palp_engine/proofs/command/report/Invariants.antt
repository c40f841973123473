use Rattle.std.proofs.Common.{◌+◌, ◌-◌}
use Rattle.palp_input.specs.Grammar.{most_bytes}
use Rattle.palp_engine.proofs.ReportSteps.{RunSoFar}
use Rattle.palp_engine.proofs.command.report.Given as goal

abbrev pub invariant-loop-item : goal.invariant-loop-item
invariant-loop-item g l = RunSoFar l.fn.job (g.S.Source.state l.fn.src) (g.S.Source.state l.src) l.reader (g.O.Sink.state l.fn.out)
    (g.O.Sink.state l.out) l.number

abbrev pub decreases-loop-item : goal.decreases-loop-item
decreases-loop-item g l = most_bytes + 1 - l.reader.bytes
