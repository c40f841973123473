use Rattle.std.proofs.Common.{◌≡◌, take, pos}
use Rattle.std.specs.List.{All}
use Rattle.lattice_core.specs.Weights.{weighted_all, weighted_degree}
use Rattle.weight_frame.proofs.coordinates.is_inside.Given as goal

abbrev pub invariant-loop-system : goal.invariant-loop-system
invariant-loop-system l = All (λ s. weighted_degree s l.x ≡ pos 0) (weighted_all (take l.system-index l.systems))
