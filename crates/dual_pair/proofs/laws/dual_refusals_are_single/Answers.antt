use Rattle.dual_pair.proofs.SingleRefusals.{one_dual_refusal_lem, dual_or_refusal_lem}
use Rattle.dual_pair.proofs.laws.dual_refusals_are_single.Goals as goal

pub returns-clause-refusal : goal.returns-clause-refusal
returns-clause-refusal c = one_dual_refusal_lem

pub returns-clause-apart : goal.returns-clause-apart
returns-clause-apart c = dual_or_refusal_lem
