use Rattle.duality_theory.proofs.ExampleSteps.{diamond_isnt_reflexive}
use Rattle.duality_theory.proofs.examples.equal_constants_are_an_example.Goals as goal

pub returns : goal.returns
returns c = diamond_isnt_reflexive
