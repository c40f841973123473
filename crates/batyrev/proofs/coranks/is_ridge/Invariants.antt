use Rattle.std.proofs.Common.{◌≡◌, ℕ, ◌<◌, true, false}
use Rattle.bit_pool.specs.Bits.{IsSubset}
use Rattle.face_theory.specs.Faces.{IsCorank}
use Rattle.face_poset.specs.Faces.{face_at}
use Rattle.dual_pair.specs.Polytopes.{PolytopeState}
use Rattle.dual_pair.specs.Faces.{on_facets, AreFacesOf}
use Rattle.dual_pair.specs.Interiors.{set_in}
use Rattle.batyrev.proofs.coranks.is_ridge.Given as goal

abbrev pub invariant-loop-other : goal.invariant-loop-other
invariant-loop-other l = record {
  found : l.some ≡ true → (j : ℕ) × (l.face < j) × (j < l.whole)
      × IsSubset (face_at l.table.faces l.face).members (face_at l.table.faces j).members;
  none : l.some ≡ false → (j : ℕ) → l.face < j → j < l.other
      → IsSubset (face_at l.table.faces l.face).members (face_at l.table.faces j).members → ⊥;
  facets : (p : PolytopeState) → AreFacesOf p l.table → (j : ℕ) → l.face < j → j < l.other
      → IsSubset (face_at l.table.faces l.face).members (face_at l.table.faces j).members
      → IsCorank (on_facets p) (set_in p (face_at l.table.faces j)) 1;
}
