use Rattle.dual_pair.proofs.SingleRefusals.{one_polytope_refusal_lem, polytope_or_refusal_lem}
use Rattle.dual_pair.proofs.laws.polytope_refusals_are_single.Goals as goal

pub returns-clause-refusal : goal.returns-clause-refusal
returns-clause-refusal c = one_polytope_refusal_lem

pub returns-clause-apart : goal.returns-clause-apart
returns-clause-apart c = polytope_or_refusal_lem
