use Rattle.std.proofs.Common.{◌≡◌, take}
use Rattle.polytope_vectors.proofs.hulls.copies.Given as goal

abbrev pub invariant-loop-f : goal.invariant-loop-f
invariant-loop-f l = l.copies.items ≡ take l.f-index l.functions
