use Rattle.lattice_core.specs.Weights.{weighted_all}
use Rattle.item_points.proofs.WeightLattice.{weight_points_are_all}
use Rattle.item_polytopes.proofs.items.polytope_of_systems.Goals as goal

pub of_lattice_points-requires-clause-all : goal.of_lattice_points-requires-clause-all
of_lattice_points-requires-clause-all c = weight_points_are_all (weighted_all c.args.systems.now) c.in_ok-points.points.items c.requires
    c.in_ok-points.ensures.points.are_points
