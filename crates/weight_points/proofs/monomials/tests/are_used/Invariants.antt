use Rattle.std.proofs.Common.{ℕ, ◌<◌}
use Rattle.lattice_core.specs.Weights.{weighted_all, HasWeightAt}
use Rattle.weight_points.proofs.monomials.tests.are_used.Given as goal

abbrev pub invariant-loop-place : goal.invariant-loop-place
invariant-loop-place l = (place : ℕ) → place < l.place → HasWeightAt (weighted_all l.systems) place
