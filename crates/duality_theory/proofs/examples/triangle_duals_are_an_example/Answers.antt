use Rattle.duality_theory.proofs.ExampleSteps.{triangle_lists, triangle_dual_points}
use Rattle.duality_theory.proofs.examples.triangle_duals_are_an_example.Goals as goal

pub returns : goal.returns
returns c = record { lists = triangle_lists; dual_points = triangle_dual_points }
