use Rattle.std.proofs.Common.{inl, arith}
use Rattle.interior_point_theory.proofs.ExampleSteps.{three_ones_system, one_one_three_outside, twos_no_system}
use Rattle.interior_point_theory.proofs.examples.systems_are_an_example.Goals as goal

pub returns : goal.returns
returns c = record { ones = three_ones_system; outside = one_one_three_outside; doubled = twos_no_system; degree_first = inl (omega arith) }
