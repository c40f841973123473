use Rattle.std.proofs.Common.{◌≤◌, ◌*◌, get_or}
use Rattle.dual_pair.specs.Polytopes.{PolytopeState}
use Rattle.dual_pair.specs.Faces.{AreFacesOf}
use Rattle.batyrev.specs.Levels.{IsLevelSum}
use Rattle.batyrev.proofs.sums.product_sum.Given as goal

abbrev pub invariant-loop-face : goal.invariant-loop-face
invariant-loop-face l = record {
  sum : (p : PolytopeState) → AreFacesOf p l.table
      → IsLevelSum p l.level l.table.faces (λ k. get_or l.inner k 0 * get_or l.outer k 0) l.face l.sum;
  bound : l.sum ≤ l.face * 4294967296;
}
