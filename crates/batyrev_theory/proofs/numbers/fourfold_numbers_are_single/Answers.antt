use Rattle.batyrev_theory.proofs.SingleNumbers.{fourfold_numbers_are_single_lem}
use Rattle.batyrev_theory.proofs.numbers.fourfold_numbers_are_single.Goals as goal

pub returns : goal.returns
returns c = fourfold_numbers_are_single_lem
