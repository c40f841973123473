use Rattle.std.proofs.Common.{◌≡◌, ℕ, ◌<◌, ◌≤◌, pos, length}
use Rattle.lattice_theory.specs.Vector.{entry}
use Rattle.small_poly.proofs.lists.clear_from.Given as goal

abbrev pub invariant-loop-i : goal.invariant-loop-i
invariant-loop-i l = record {
  long : length l.coefficients ≡ length l.initial.coefficients;
  before : (k : ℕ) → k < l.start → entry l.coefficients k ≡ entry l.initial.coefficients k;
  cleared : (k : ℕ) → l.start ≤ k → k < l.i → entry l.coefficients k ≡ pos 0;
}
