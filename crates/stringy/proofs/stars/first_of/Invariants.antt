use Rattle.std.proofs.Common.{◌≡◌, ℕ, ◌<◌, ◌≤◌, pos, length}
use Rattle.lattice_theory.specs.Vector.{entry}
use Rattle.stringy.specs.Numbers.{series_from}
use Rattle.stringy.proofs.stars.first_of.Given as goal

abbrev pub invariant-loop-s : goal.invariant-loop-s
invariant-loop-s l = record {
  whole : length l.row ≡ 9;
  done : (j : ℕ) → j < l.s → entry l.row j ≡ series_from l.numbers j;
  left : (j : ℕ) → l.s ≤ j → entry l.row j ≡ pos 0;
}
