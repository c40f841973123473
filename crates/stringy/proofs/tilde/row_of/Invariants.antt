use Rattle.std.proofs.Common.{◌≡◌, ℕ, ◌+◌, ◌*◌, ◌<◌, ◌≤◌, pos, length}
use Rattle.lattice_theory.specs.Vector.{entry}
use Rattle.stringy.proofs.tilde.row_of.Given as goal

abbrev pub invariant-loop-k : goal.invariant-loop-k
invariant-loop-k l = record {
  whole : length l.row ≡ 9;
  done : (j : ℕ) → j < l.k → entry l.row j ≡ entry l.rows (8 * l.face + j);
  left : (j : ℕ) → l.k ≤ j → entry l.row j ≡ pos 0;
}
