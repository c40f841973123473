use Rattle.normal_bounds.proofs.ExampleSteps.{fixed_by, within_three, above_two}
use Rattle.normal_bounds.proofs.examples.two_points_are_an_example.Goals as goal

pub returns : goal.returns
returns c = record { fixed = fixed_by; within = within_three; above = above_two }
