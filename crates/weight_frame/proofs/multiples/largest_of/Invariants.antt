use Rattle.std.proofs.Common.{◌≡◌, max, drop}
use Rattle.weight_frame.specs.Frame.{largest}
use Rattle.weight_frame.proofs.multiples.largest_of.Given as goal

abbrev pub invariant-loop-entry : goal.invariant-loop-entry
invariant-loop-entry l = max l.most (largest (drop l.entry-index l.x)) ≡ largest l.x
