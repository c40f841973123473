use Rattle.cayley_theory.proofs.ConeVectors.{cone_lengths_lem}
use Rattle.cayley_theory.proofs.cones.cone_lengths.Goals as goal

pub returns : goal.returns
returns c = cone_lengths_lem
