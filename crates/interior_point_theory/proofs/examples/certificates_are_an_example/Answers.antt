use Rattle.interior_point_theory.proofs.ExampleSteps.{surrounded_example, refuter_example}
use Rattle.interior_point_theory.proofs.examples.certificates_are_an_example.Goals as goal

pub returns : goal.returns
returns c = record { confirmed = surrounded_example; refuted = refuter_example }
