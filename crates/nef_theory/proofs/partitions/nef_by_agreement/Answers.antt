use Rattle.nef_theory.proofs.Agreements.{nef_by_agreement_lem}
use Rattle.nef_theory.proofs.partitions.nef_by_agreement.Goals as goal

pub returns : goal.returns
returns c = nef_by_agreement_lem
