use Rattle.lattice_theory.specs.Vector.{HaveDimension}
use Rattle.hull.proofs.tests.points_in.Given as goal

abbrev pub invariant-loop-row : goal.invariant-loop-row
invariant-loop-row l = HaveDimension l.n l.points.items
