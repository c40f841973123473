use Rattle.lattice_core.proofs.CombinationExample.{example_combination, difference_is_none}
use Rattle.lattice_core.proofs.examples.combination_is_an_example.Goals as goal

pub returns : goal.returns
returns c = record { sum = example_combination; difference = difference_is_none }
