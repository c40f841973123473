use Rattle.std.proofs.Common.{take}
use Rattle.hull.specs.steps.Candidates.{AreCandidates}
use Rattle.hull.proofs.candidates.candidates_of.Given as goal

abbrev pub invariant-loop-p : goal.invariant-loop-p
invariant-loop-p l = AreCandidates l.facets (take l.p-index l.points) l.candidates.items
