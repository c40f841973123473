use Rattle.std.proofs.Common.{◌≡◌, map, take}
use Rattle.weight_tails.specs.steps.Listing.{lowered}
use Rattle.weight_tails.proofs.tails.all_lowered.Given as goal

abbrev pub invariant-loop-e : goal.invariant-loop-e
invariant-loop-e l = l.entries.items ≡ map lowered (take l.e-index l.exponents)
