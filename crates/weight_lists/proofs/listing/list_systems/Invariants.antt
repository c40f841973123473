use Rattle.std.proofs.Common.{◌-◌, ◌^◌}
use Rattle.weight_lists.proofs.CwsLoops.{CwsSoFar}
use Rattle.weight_lists.proofs.listing.list_systems.Given as goal

abbrev pub invariant-loop-page : goal.invariant-loop-page
invariant-loop-page g l = CwsSoFar l.fn.words.reflexive_only l.fn.words.dim l.fn.words.low l.fn.words.high l.search l.number l.listed
    (g.O.Sink.state l.fn.out) (g.O.Sink.state l.out)

abbrev pub decreases-loop-page : goal.decreases-loop-page
decreases-loop-page g l = 2 ^ 61 - l.number
