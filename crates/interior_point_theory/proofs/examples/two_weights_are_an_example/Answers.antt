use Rattle.interior_point_theory.proofs.ExampleSteps.{two_weights_lem, two_ones_tails}
use Rattle.interior_point_theory.proofs.examples.two_weights_are_an_example.Goals as goal

pub returns : goal.returns
returns c = record { range = two_weights_lem; tails = two_ones_tails }
