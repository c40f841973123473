use Rattle.batyrev.proofs.ExchangedNumbers.{divisors_are_deformations_of_the_dual_lem}
use Rattle.batyrev.proofs.laws.divisors_are_deformations_of_the_dual.Goals as goal

pub returns : goal.returns
returns c = divisors_are_deformations_of_the_dual_lem
