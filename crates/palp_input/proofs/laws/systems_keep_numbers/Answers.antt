use Rattle.palp_input.proofs.KeptNumbers.{systems_keep, items_keep}
use Rattle.palp_input.proofs.laws.systems_keep_numbers.Goals as goal

pub returns : goal.returns
returns c = record {
  placed = systems_keep;
  item = items_keep;
}
