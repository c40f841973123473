use Rattle.interior_point_theory.proofs.LargestWeights.{largest_weights_lem}
use Rattle.interior_point_theory.proofs.cuts.largest_weights.Goals as goal

pub returns : goal.returns
returns c = largest_weights_lem
