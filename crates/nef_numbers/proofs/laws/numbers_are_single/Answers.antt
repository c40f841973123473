use Rattle.nef_numbers.proofs.SingleNumbers.{numbers_are_single_lem, one_refusal_lem, numbers_or_refusal_lem}
use Rattle.nef_numbers.proofs.laws.numbers_are_single.Goals as goal

pub returns-clause-numbers : goal.returns-clause-numbers
returns-clause-numbers c = numbers_are_single_lem

pub returns-clause-refusals : goal.returns-clause-refusals
returns-clause-refusals c = one_refusal_lem

pub returns-clause-apart : goal.returns-clause-apart
returns-clause-apart c = numbers_or_refusal_lem
