use Rattle.std.proofs.Common.{ℕ, ◌<◌}
use Rattle.bit_pool.specs.Bits.{IsSubset}
use Rattle.face_poset.specs.Faces.{face_at}
use Rattle.batyrev.proofs.coranks.is_facet.Given as goal

abbrev pub invariant-loop-other : goal.invariant-loop-other
invariant-loop-other l = (k : ℕ) → l.face < k → k < l.other → IsSubset (face_at l.table.faces l.face).members (face_at l.table.faces k).members → ⊥
