use Rattle.std.proofs.Common.{◌≡◌, ℕ, ◌<◌, ◌≤◌, pos, length}
use Rattle.lattice_theory.specs.Vector.{entry}
use Rattle.stringy.proofs.rows.clear_from.Given as goal

abbrev pub invariant-loop-k : goal.invariant-loop-k
invariant-loop-k l = record {
  long : length l.row ≡ length l.initial.row;
  before : (j : ℕ) → j < l.start → entry l.row j ≡ entry l.initial.row j;
  cleared : (j : ℕ) → l.start ≤ j → j < l.k → entry l.row j ≡ pos 0;
}
