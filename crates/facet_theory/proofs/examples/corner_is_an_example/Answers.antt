use Rattle.facet_theory.proofs.ExampleSteps.{corner_solid, corner_x, corner_y, corner_xy, corner_one}
use Rattle.facet_theory.proofs.examples.corner_is_an_example.Goals as goal

pub returns : goal.returns
returns c = record { solid = corner_solid; left = corner_x; lower = corner_y; slanted = corner_xy; one = corner_one }
