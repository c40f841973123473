use Rattle.batyrev_theory.proofs.SingleNumbers.{threefold_numbers_are_single_lem}
use Rattle.batyrev_theory.proofs.numbers.threefold_numbers_are_single.Goals as goal

pub returns : goal.returns
returns c = threefold_numbers_are_single_lem
