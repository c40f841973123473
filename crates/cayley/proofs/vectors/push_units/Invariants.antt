use Rattle.cayley.specs.ConeSteps.{kept_unit, AddsFirst}
use Rattle.cayley.proofs.vectors.push_units.Given as goal

abbrev pub invariant-loop-part : goal.invariant-loop-part
invariant-loop-part l = AddsFirst (kept_unit l.dim) l.fn.functions.items l.part l.functions.items
