use Rattle.std.proofs.Common.{ℕ, ◌/◌, ◌<◌}
use Rattle.bit_pool.specs.Bits.{HasBit}
use Rattle.bit_pool.proofs.bits.is_within.Given as goal

abbrev pub invariant-loop-i : goal.invariant-loop-i
invariant-loop-i l = (number : ℕ) → number / 64 < l.i → HasBit l.words number → HasBit l.others number
