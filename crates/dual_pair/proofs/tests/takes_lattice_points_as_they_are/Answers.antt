use Rattle.std.proofs.Common.{rules}
use Rattle.dual_pair.proofs.UnitSegment.{ends_given}
use Rattle.dual_pair.proofs.tests.takes_lattice_points_as_they_are.Goals as goal

pub of_lattice_points-requires-clause-all : goal.of_lattice_points-requires-clause-all
of_lattice_points-requires-clause-all g c = ends_given _ (search rules)
