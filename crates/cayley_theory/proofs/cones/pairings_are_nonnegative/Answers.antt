use Rattle.cayley_theory.proofs.ConeVectors.{pairings_are_nonnegative_lem}
use Rattle.cayley_theory.proofs.cones.pairings_are_nonnegative.Goals as goal

pub returns : goal.returns
returns c = pairings_are_nonnegative_lem
