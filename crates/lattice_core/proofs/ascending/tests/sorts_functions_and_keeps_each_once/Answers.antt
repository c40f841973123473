use Rattle.lattice_core.proofs.ascending.tests.sorts_functions_and_keeps_each_once.Goals as goal

pub ascending_functions-requires : goal.ascending_functions-requires
ascending_functions-requires g c = (1, c.loop-entry.invariant)
