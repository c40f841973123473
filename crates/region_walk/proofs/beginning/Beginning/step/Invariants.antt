use Rattle.std.proofs.Common.{◌≡◌, ℕ, ◌≤◌, ◌<◌, ◌≤ℤ◌, length}
use Rattle.lattice_theory.specs.Vector.{entry}
use Rattle.region_walk.proofs.beginning.Beginning.step.Given as goal

abbrev pub invariant-loop-i : goal.invariant-loop-i
invariant-loop-i l = record {
  entries : l.self.entries.items ≡ l.fn.self.entries.items;
  ends : l.self.ends.items ≡ l.fn.self.ends.items;
  behind : (k : ℕ) → l.i ≤ k → k < length l.fn.self.entries.items → entry l.fn.self.ends.items k ≤ℤ entry l.fn.self.entries.items k;
}
