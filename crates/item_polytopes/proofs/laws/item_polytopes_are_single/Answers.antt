use Rattle.item_polytopes.proofs.SingleKinds.{one_polytope_lem, one_polytope_refusal_of_item_lem, item_polytope_or_refusal_lem}
use Rattle.item_polytopes.proofs.laws.item_polytopes_are_single.Goals as goal

pub returns : goal.returns
returns c = record { polytope = one_polytope_lem; refusal = one_polytope_refusal_of_item_lem; apart = item_polytope_or_refusal_lem }
