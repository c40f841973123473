use Rattle.std.proofs.Common.{[]}
use Rattle.cayley.specs.ConeSteps.{kept_point, AddsFirst}
use Rattle.cayley.proofs.vectors.members_of.Given as goal

abbrev pub invariant-loop-k : goal.invariant-loop-k
invariant-loop-k l = AddsFirst (kept_point l.points l.places l.parts) [] l.k l.members.items
