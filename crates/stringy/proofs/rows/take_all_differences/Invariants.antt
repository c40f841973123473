use Rattle.std.proofs.Common.{◌≡◌, ℕ, ◌<◌, length}
use Rattle.lattice_theory.specs.Vector.{entry}
use Rattle.stringy_theory.specs.HStar.{differences_of}
use Rattle.stringy.proofs.rows.take_all_differences.Given as goal

abbrev pub invariant-loop-time : goal.invariant-loop-time
invariant-loop-time l = record {
  long : length l.row ≡ length l.initial.row;
  done : (s : ℕ) → s < length l.initial.row → entry l.row s ≡ differences_of l.time (entry l.initial.row) s;
}
