use Rattle.std.proofs.Common.{◌≡◌, ◌++◌, take, drop, map, pos}
use Rattle.weight_points.proofs.monomials.write.Given as goal

abbrev pub invariant-loop-i : goal.invariant-loop-i
invariant-loop-i l = l.out ≡ map pos (take l.i l.exponents) ++ drop l.i l.initial.out
