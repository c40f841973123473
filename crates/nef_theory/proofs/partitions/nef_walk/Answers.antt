use Rattle.nef_theory.proofs.NefWalks.{nef_walk_lem}
use Rattle.nef_theory.proofs.partitions.nef_walk.Goals as goal

pub returns : goal.returns
returns c = nef_walk_lem
