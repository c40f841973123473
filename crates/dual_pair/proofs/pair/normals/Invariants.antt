use Rattle.std.proofs.Common.{◌≡◌, take}
use Rattle.duality_theory.specs.Reflexive.{normals_of}
use Rattle.dual_pair.proofs.pair.normals.Given as goal

abbrev pub invariant-loop-f : goal.invariant-loop-f
invariant-loop-f l = l.points.items ≡ normals_of (take l.f-index l.functions)
