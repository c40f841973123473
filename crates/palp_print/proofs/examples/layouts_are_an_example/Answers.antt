use Rattle.palp_print.proofs.LayoutExamples.{example_blocks, example_lines, example_partitions, example_notes}
use Rattle.palp_print.proofs.examples.layouts_are_an_example.Goals as goal

pub returns : goal.returns
returns c = record { blocks = example_blocks; lines = example_lines; partitions = example_partitions; notes = example_notes }
