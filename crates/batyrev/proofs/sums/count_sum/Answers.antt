use Rattle.std.proofs.Common.{◌≡◌, ℕ, length, get_or, subst, arith}
use Rattle.face_poset.specs.Faces.{face_at}
use Rattle.batyrev.specs.Levels.{IsAt, IsTaken, IsLevelSum, none}
use Rattle.batyrev.proofs.LevelSums.{level_more}
use Rattle.batyrev.proofs.sums.count_sum.Goals as goal

pub loop-face-init : goal.loop-face-init
loop-face-init c = record { sum = λ p t. none; bound = omega arith }

pub loop-face-preserved : goal.loop-face-preserved
loop-face-preserved c = record {
  sum = λ p t. level_more _ _ c.loop-face.face c.loop-face.sum c.taken-sum.result (c.loop-face.invariant.sum p t)
      (subst (λ (n : ℕ). IsTaken (IsAt p c.args.level (face_at c.args.table.now.faces c.loop-face.face)) n c.taken-sum.result) c.from.ensures
      (c.taken-sum.ensures.taken p t));
  bound = let b = c.loop-face.invariant.bound in let m = c.taken-sum.ensures.most in let f = c.type_inv.counts c.loop-face.face in
      let e = c.from.ensures in omega arith;
}

pub returns-clause-sum : goal.returns-clause-sum
returns-clause-sum c = λ p t.
    let a = c.loop-face.auto.face-end in let m = c.loop-face-test.false in let v = c.len-face-end.ensures.value in
    let end : c.loop-face.face ≡ length c.args.table.now.faces = omega arith in
    subst (λ (n : ℕ). IsLevelSum p c.args.level c.args.table.now.faces (λ k. get_or c.args.counts.now k 0) n c.loop-face.sum) end
    (c.loop-face.invariant.sum p t)
