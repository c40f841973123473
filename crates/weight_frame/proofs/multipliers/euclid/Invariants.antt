use Rattle.std.proofs.Common.{ℕ, ◌^◌, ◌<◌, pos, ◌*ℤ◌}
use Rattle.std.specs.Int.{IsGcd}
use Rattle.weight_frame.specs.steps.Euclid.{IsCongruent}
use Rattle.weight_frame.proofs.Factors.{AreFactors}
use Rattle.weight_frame.proofs.multipliers.euclid.Given as goal

abbrev pub invariant-loop-lesser : goal.invariant-loop-lesser
invariant-loop-lesser l = record {
  divisor : (g : ℕ) → IsGcd l.greater l.lesser g → IsGcd l.after l.fn.r g;
  greater : l.greater < 2 ^ 55;
  lesser : l.lesser < 2 ^ 55;
  factors : AreFactors l.after l.greater l.lesser l.greater_factor l.lesser_factor;
  congruent : IsCongruent l.after (l.greater_factor *ℤ pos l.fn.r) (pos l.greater);
  next : IsCongruent l.after (l.lesser_factor *ℤ pos l.fn.r) (pos l.lesser);
}

abbrev pub decreases-loop-lesser : goal.decreases-loop-lesser
decreases-loop-lesser l = l.lesser
