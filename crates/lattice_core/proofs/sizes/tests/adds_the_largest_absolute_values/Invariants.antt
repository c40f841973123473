use Rattle.lattice_theory.specs.Vector.{HaveDimension}
use Rattle.lattice_core.proofs.sizes.tests.adds_the_largest_absolute_values.Given as goal

abbrev pub invariant-loop-first : goal.invariant-loop-first
invariant-loop-first g l = HaveDimension 2 l.points.items
