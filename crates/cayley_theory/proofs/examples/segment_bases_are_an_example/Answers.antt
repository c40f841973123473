use Rattle.std.proofs.Common.{refl}
use Rattle.cayley_theory.proofs.BaseExample.{segment_numbers_lem, segment_summed_lem}
use Rattle.cayley_theory.proofs.examples.segment_bases_are_an_example.Goals as goal

pub returns-clause-kept : goal.returns-clause-kept
returns-clause-kept c = refl

pub returns-clause-numbers : goal.returns-clause-numbers
returns-clause-numbers c = segment_numbers_lem

pub returns-clause-vectors : goal.returns-clause-vectors
returns-clause-vectors c = segment_summed_lem
