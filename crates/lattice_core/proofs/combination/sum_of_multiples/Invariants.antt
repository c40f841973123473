use Rattle.std.proofs.Common.{◌≡◌, ◌^◌, ◌<◌, take}
use Rattle.std.specs.Prelude.{nat_abs}
use Rattle.std.specs.List.{All}
use Rattle.arrayvec.specs.ArrayVec.{array_vec_len}
use Rattle.lattice_theory.proofs.Vectors.{combined}
use Rattle.lattice_core.proofs.combination.sum_of_multiples.Given as goal

abbrev pub invariant-loop-i : goal.invariant-loop-i
invariant-loop-i l = record {
  length : array_vec_len l.sums ≡ l.i;
  items : l.sums.items ≡ take l.i (combined l.left l.a l.right l.b);
  small : All (λ x. nat_abs x < 2 ^ 127) l.sums.items;
}
