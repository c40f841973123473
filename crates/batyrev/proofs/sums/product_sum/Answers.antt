use Rattle.std.proofs.Common.{◌≡◌, ℕ, ◌*◌, length, get_or, ap₂, subst, arith}
use Rattle.face_poset.specs.Faces.{face_at}
use Rattle.batyrev.specs.Levels.{IsAt, IsTaken, IsLevelSum, none}
use Rattle.batyrev.proofs.LevelSums.{level_more, product_small}
use Rattle.batyrev.proofs.sums.product_sum.Goals as goal

pub loop-face-init : goal.loop-face-init
loop-face-init c = record { sum = λ p t. none; bound = omega arith }

pub loop-face-preserved : goal.loop-face-preserved
loop-face-preserved c = record {
  sum = λ p t. level_more _ _ c.loop-face.face c.loop-face.sum c.taken-sum.result (c.loop-face.invariant.sum p t)
      (subst (λ (n : ℕ). IsTaken (IsAt p c.args.level (face_at c.args.table.now.faces c.loop-face.face)) n c.taken-sum.result)
      (ap₂ (λ (a b : ℕ). a * b) c.from.ensures c.from-in-loop-face.ensures) (c.taken-sum.ensures.taken p t));
  bound =
      let b = c.loop-face.invariant.bound in
      let m = c.taken-sum.ensures.most in
      let e = c.from.ensures in
      let f = c.from-in-loop-face.ensures in
      let i = c.type_inv.inner c.loop-face.face in
      let o = c.type_inv.outer c.loop-face.face in
      let s = product_small c.from.result c.from-in-loop-face.result (omega arith) (omega arith) in
      omega (arith, b, m, s);
}

pub returns-clause-sum : goal.returns-clause-sum
returns-clause-sum c = λ p t.
    let a = c.loop-face.auto.face-end in let m = c.loop-face-test.false in let v = c.len-face-end.ensures.value in
    let end : c.loop-face.face ≡ length c.args.table.now.faces = omega arith in
    subst (λ (n : ℕ). IsLevelSum p c.args.level c.args.table.now.faces (λ k. get_or c.args.inner.now k 0 * get_or c.args.outer.now k 0) n
    c.loop-face.sum) end (c.loop-face.invariant.sum p t)
