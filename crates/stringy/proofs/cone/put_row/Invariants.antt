use Rattle.std.proofs.Common.{◌≡◌, ◌⊎◌, ℕ, ◌+◌, ◌*◌, ◌<◌, ◌≤◌, length}
use Rattle.lattice_theory.specs.Vector.{entry}
use Rattle.stringy.proofs.cone.put_row.Given as goal

abbrev pub invariant-loop-k : goal.invariant-loop-k
invariant-loop-k l = record {
  long : length l.rows ≡ length l.initial.rows;
  done : (j : ℕ) → j < l.k → entry l.rows (8 * l.face + j) ≡ entry l.row j;
  others : (j : ℕ) → (j < 8 * l.face) ⊎ (8 * l.face + 8 ≤ j) → entry l.rows j ≡ entry l.initial.rows j;
}
