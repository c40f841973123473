use Rattle.std.proofs.Common.{◌≡◌, ℕ, ◌<◌, pos}
use Rattle.lattice_theory.specs.Vector.{entry}
use Rattle.weight_frame.proofs.coordinates.first_place.Given as goal

abbrev pub invariant-loop-place : goal.invariant-loop-place
invariant-loop-place l = (j : ℕ) → j < l.place → entry l.x j ≡ pos 0
