use Rattle.std.proofs.Common.{◌≡◌, ◌+◌, ◌<◌, ◌≤◌, ℕ, pos}
use Rattle.lattice_theory.specs.Vector.{entry}
use Rattle.poset_g.proofs.table.polynomial.Given as goal

abbrev pub invariant-loop-degree : goal.invariant-loop-degree
invariant-loop-degree l = record {
  done : (k : ℕ) → k < l.degree → entry l.polynomial k ≡ entry l.values (l.first + k);
  left : (k : ℕ) → l.degree ≤ k → entry l.polynomial k ≡ pos 0;
}
