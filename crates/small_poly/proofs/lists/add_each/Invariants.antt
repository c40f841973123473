use Rattle.std.proofs.Common.{◌≡◌, ℕ, ◌<◌, ◌≤◌, ◌+ℤ◌, length}
use Rattle.lattice_theory.specs.Vector.{entry}
use Rattle.small_poly.proofs.lists.add_each.Given as goal

abbrev pub invariant-loop-i : goal.invariant-loop-i
invariant-loop-i l = record {
  long : length l.sums ≡ length l.initial.sums;
  done : (k : ℕ) → k < l.i → entry l.sums k ≡ entry l.initial.sums k +ℤ entry l.others k;
  left : (k : ℕ) → l.i ≤ k → entry l.sums k ≡ entry l.initial.sums k;
}
