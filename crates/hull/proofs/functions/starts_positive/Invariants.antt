use Rattle.std.proofs.Common.{◌≡◌, ℕ, ◌<◌, pos}
use Rattle.lattice_theory.specs.Vector.{entry}
use Rattle.hull.proofs.functions.starts_positive.Given as goal

abbrev pub invariant-loop-entry : goal.invariant-loop-entry
invariant-loop-entry l = (k : ℕ) → k < l.entry-index → entry l.normal k ≡ pos 0
