use Rattle.std.proofs.Common.{◌≡◌, ℕ, ◌<◌, ◌≤◌, pos}
use Rattle.lattice_theory.specs.Vector.{entry}
use Rattle.stringy.proofs.stars.polynomial_of.Given as goal

abbrev pub invariant-loop-k : goal.invariant-loop-k
invariant-loop-k l = record {
  done : (j : ℕ) → j < l.k → entry l.polynomial j ≡ entry l.row j;
  left : (j : ℕ) → l.k ≤ j → entry l.polynomial j ≡ pos 0;
}
