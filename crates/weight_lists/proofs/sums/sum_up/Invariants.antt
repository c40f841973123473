use Rattle.std.proofs.Common.{◌-◌, ◌^◌}
use Rattle.weight_lists.proofs.SweepLoops.{SweepSoFar}
use Rattle.weight_lists.proofs.sums.sum_up.Given as goal

abbrev pub invariant-loop-search : goal.invariant-loop-search
invariant-loop-search g l = SweepSoFar l.fn.words.dim l.fn.words.low l.fn.words.high l.search l.systems l.reflexive l.points l.dual_points
    (g.O.Sink.state l.fn.out) (g.O.Sink.state l.out)

abbrev pub decreases-loop-search : goal.decreases-loop-search
decreases-loop-search g l = 2 ^ 61 - l.systems
