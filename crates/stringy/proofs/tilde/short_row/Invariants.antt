use Rattle.std.proofs.Common.{◌≡◌, ℕ, ◌<◌, length}
use Rattle.lattice_theory.specs.Vector.{entry}
use Rattle.stringy.proofs.tilde.short_row.Given as goal

abbrev pub invariant-loop-k : goal.invariant-loop-k
invariant-loop-k l = record {
  whole : length l.row ≡ 4;
  done : (j : ℕ) → j < l.k → entry l.row j ≡ entry l.polynomial j;
}
