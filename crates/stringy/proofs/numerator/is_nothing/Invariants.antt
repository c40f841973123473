use Rattle.std.proofs.Common.{◌≡◌, ◌<◌, ℕ, pos}
use Rattle.lattice_theory.specs.Vector.{entry}
use Rattle.stringy.proofs.numerator.is_nothing.Given as goal

abbrev pub invariant-loop-k : goal.invariant-loop-k
invariant-loop-k l = (j : ℕ) → j < l.k → entry l.row j ≡ pos 0
