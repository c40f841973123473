use Rattle.std.proofs.Common.{ℕ, ◌<◌}
use Rattle.std.specs.Prelude.{⊤}
use Rattle.bit_pool.specs.Pools.{OnRow}
use Rattle.face_poset.specs.Builds.{id_at}
use Rattle.face_poset.proofs.rows.ask_rows.Given as goal

abbrev pub invariant-loop-number : goal.invariant-loop-number
invariant-loop-number l = (k : ℕ) → k < l.number → OnRow l.pool (id_at l.incidence k) (λ words. ⊤)
