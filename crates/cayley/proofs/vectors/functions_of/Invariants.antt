use Rattle.std.proofs.Common.{[]}
use Rattle.cayley.specs.ConeSteps.{kept_normal, AddsFirst}
use Rattle.cayley.proofs.vectors.functions_of.Given as goal

abbrev pub invariant-loop-e : goal.invariant-loop-e
invariant-loop-e l = AddsFirst (kept_normal l.normals l.part_of) [] l.e l.functions.items
