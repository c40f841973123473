use Rattle.cayley_theory.proofs.ExampleSteps.{segment_members_are, segment_functions_are, segment_count, end_count, dual_count}
use Rattle.cayley_theory.proofs.examples.segment_cone_is_an_example.Goals as goal

pub returns : goal.returns
returns c = record { members = segment_members_are; functions = segment_functions_are; all = segment_count; face = end_count; dual = dual_count }
