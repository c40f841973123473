use Rattle.std.proofs.Common.{◌≡◌, ◌≤◌, ℕ, pos}
use Rattle.lattice_theory.specs.Vector.{entry}
use Rattle.region_walk.proofs.region.level_of.Given as goal

abbrev pub invariant-loop-k : goal.invariant-loop-k
invariant-loop-k l = (j : ℕ) → l.k ≤ j → entry l.normal j ≡ pos 0
