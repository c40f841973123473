use Rattle.nef_theory.proofs.ExampleSteps.{zero_one, one_zero, short_segment_nef, longer_segment}
use Rattle.nef_theory.proofs.examples.segment_parts_are_an_example.Goals as goal

pub returns : goal.returns
returns c = record { growth = zero_one; no_growth = one_zero; nef = short_segment_nef; isnt_reflexive = longer_segment }
