use Rattle.batyrev_theory.proofs.SingleNumbers.{surface_numbers_are_single_lem}
use Rattle.batyrev_theory.proofs.numbers.surface_numbers_are_single.Goals as goal

pub returns : goal.returns
returns c = surface_numbers_are_single_lem
