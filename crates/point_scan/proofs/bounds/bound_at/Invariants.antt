use Rattle.std.specs.Prelude.{nat_abs, ◌^◌}
use Rattle.std.proofs.Common.{◌≤◌, ◌≤ℤ◌, take}
use Rattle.std.specs.List.{All}
use Rattle.lattice_theory.specs.Vector.{dot}
use Rattle.point_scan.proofs.bounds.bound_at.Given as goal

abbrev pub invariant-loop-i : goal.invariant-loop-i
invariant-loop-i l = record {
  below : All (λ p. l.least ≤ℤ dot l.normal p) (take l.i l.vertices);
  small : nat_abs l.least ≤ 2 ^ 96;
}
