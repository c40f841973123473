use Rattle.std.proofs.Common.{◌≤◌, take}
use Rattle.std.specs.List.{All}
use Rattle.lattice_core.specs.Weights.{weighted_all, IsSummed}
use Rattle.lattice_core.specs.declared.limits.TheConstants.{MOST_DEGREE}
use Rattle.weight_points.proofs.monomials.tests.are_summed.Given as goal

abbrev pub invariant-loop-system : goal.invariant-loop-system
invariant-loop-system l = record {
  summed : All (IsSummed l.count) (weighted_all (take l.system-index l.systems));
  small : All (λ s. s.degree ≤ MOST_DEGREE) (weighted_all (take l.system-index l.systems));
}
