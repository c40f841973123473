use Rattle.std.proofs.Common.{◌≡◌, ◌+◌, ◌*◌, ◌≤◌, drop}
use Rattle.bit_pool.proofs.Counts.{all_ones}
use Rattle.bit_pool.proofs.bits.size_of_row.Given as goal

pub record IsCounted (l : goal.Live-loop-word) : Type 0 where
  pub sum : l.count + all_ones (drop l.word-index l.words) ≡ all_ones l.words
  pub bound : l.count ≤ 64 * l.word-index

abbrev pub invariant-loop-word : goal.invariant-loop-word
invariant-loop-word l = IsCounted l
