use Rattle.std.proofs.Common.{◌≡◌, ◌≤◌, take}
use Rattle.polytope_vectors.proofs.large_hulls.grown.Given as goal

abbrev pub invariant-loop-i : goal.invariant-loop-i
invariant-loop-i l = record {
  same : l.builder.points ≡ take l.i l.points;
  some : 1 ≤ l.i;
}
