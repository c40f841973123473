use Rattle.std.proofs.Common.{◌≡◌, map, take, pos}
use Rattle.weight_enum.proofs.primitive.integers.Given as goal

abbrev pub invariant-loop-w : goal.invariant-loop-w
invariant-loop-w l = l.integers.items ≡ map pos (take l.w-index l.weights)
