use Rattle.std.proofs.Common.{◌≡◌, ◌≤◌, length, All}
use Rattle.lattice_theory.specs.Vector.{HaveDimension}
use Rattle.lattice_theory.specs.Size.{absolute_sum}
use Rattle.weight_certificates.proofs.tests.points_of.Given as goal

abbrev pub invariant-loop-i : goal.invariant-loop-i
invariant-loop-i g l = record {
  dimension : HaveDimension 2 l.points.items;
  small : All (λ y. absolute_sum y ≤ 256) l.points.items;
  count : length l.points.items ≡ l.i;
}
