use Rattle.lattice_theory.specs.Vector.{HaveDimension}
use Rattle.lattice_core.proofs.ascending.tests.sorts_points_and_keeps_each_once.Given as goal

abbrev pub invariant-loop-first : goal.invariant-loop-first
invariant-loop-first g l = HaveDimension 2 l.points.items
