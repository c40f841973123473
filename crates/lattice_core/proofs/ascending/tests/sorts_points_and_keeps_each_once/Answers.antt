use Rattle.lattice_core.proofs.ascending.tests.sorts_points_and_keeps_each_once.Goals as goal

pub ascending_points-requires : goal.ascending_points-requires
ascending_points-requires g c = (2, c.loop-first.invariant)
