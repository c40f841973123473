use Rattle.nef_theory.proofs.ExampleSteps.{surface_alone, surface_dead, surface_both}
use Rattle.nef_theory.proofs.examples.surface_parts_are_an_example.Goals as goal

pub returns : goal.returns
returns c = record { alone = surface_alone; dead = surface_dead; with_both = surface_both }
