use Rattle.nef_theory.proofs.Agreements.{agreement_splits_lem}
use Rattle.nef_theory.proofs.partitions.agreement_splits.Goals as goal

pub returns : goal.returns
returns c = agreement_splits_lem
