use Rattle.item_polytopes.proofs.SingleKinds.{one_kind_lem, one_kind_refusal_lem, kind_or_refusal_lem}
use Rattle.item_polytopes.proofs.laws.item_kinds_are_single.Goals as goal

pub returns : goal.returns
returns c = record { kind = one_kind_lem; refusal = one_kind_refusal_lem; apart = kind_or_refusal_lem }
