use Rattle.nef_theory.proofs.Agreements.{dead_beginnings_lem}
use Rattle.nef_theory.proofs.partitions.dead_beginnings.Goals as goal

pub returns : goal.returns
returns c = dead_beginnings_lem
