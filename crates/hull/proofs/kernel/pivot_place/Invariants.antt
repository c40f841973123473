use Rattle.std.proofs.Common.{◌≡◌, take, pos}
use Rattle.std.specs.List.{All}
use Rattle.lattice_theory.specs.Vector.{dot}
use Rattle.hull.proofs.kernel.pivot_place.Given as goal

abbrev pub invariant-loop-place : goal.invariant-loop-place
invariant-loop-place l = All (λ k. dot k.vector l.v ≡ pos 0) (take l.place l.kernel)
