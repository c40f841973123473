use Rattle.lattice_theory.specs.Vector.{HaveDimension}
use Rattle.hull.proofs.tests.prism.Given as goal

abbrev pub invariant-loop-number : goal.invariant-loop-number
invariant-loop-number l = HaveDimension 3 l.points.items
