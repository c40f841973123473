use Rattle.std.proofs.Common.{◌≡◌, ℕ, ◌<◌, length, bit_and, get_or}
use Rattle.bit_pool.proofs.bits.meet_of.Given as goal

pub record IsMetBelow (l : goal.Live-loop-i) : Type 0 where
  pub whole : length l.meet ≡ 64
  pub entries : (k : ℕ) → k < l.i → get_or l.meet k 0 ≡ bit_and (get_or l.words k 0) (get_or l.others k 0)

abbrev pub invariant-loop-i : goal.invariant-loop-i
invariant-loop-i l = IsMetBelow l
