use Rattle.std.proofs.Common.{◌≡◌, ℕ, ◌<◌, ◌≤◌, length}
use Rattle.lattice_theory.specs.Vector.{entry}
use Rattle.stringy_theory.specs.HStar.{differences}
use Rattle.stringy.proofs.RowDifferences.{previous}
use Rattle.stringy.proofs.rows.take_differences.Given as goal

abbrev pub invariant-loop-s : goal.invariant-loop-s
invariant-loop-s l = record {
  long : length l.row ≡ length l.initial.row;
  last : l.before ≡ previous (entry l.initial.row) l.s;
  done : (k : ℕ) → k < l.s → entry l.row k ≡ differences (entry l.initial.row) k;
  left : (k : ℕ) → l.s ≤ k → entry l.row k ≡ entry l.initial.row k;
}
