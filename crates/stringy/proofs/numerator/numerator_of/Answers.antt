use Rattle.std.proofs.Common.{◌≡◌, ℕ, ◌+◌, ◌-◌, ◌*◌, ◌^◌, ◌<◌, ◌≤◌, ℤ, pos, ◌+ℤ◌, nat_abs, length, refl, ap, ◌∙◌, arith}
use Rattle.std.specs.List.{range_with_len}
use Rattle.polynomial_theory.specs.Sums.{sum_over}
use Rattle.small_poly.specs.Tables.{laurent_of}
use Rattle.stringy.specs.RowSteps.{row_at, face_term}
use Rattle.stringy.proofs.RangeSums.{sum_starts, next_sum, sum_done}
use Rattle.stringy.proofs.KeptRows.{same_size}
use Rattle.stringy.proofs.FaceSums.{term_size, faces_are_numerator}
use Rattle.stringy.proofs.numerator.numerator_of.Goals as goal

pub loop-face-init : goal.loop-face-init
loop-face-init c = record {
  sum = λ p q. sum_starts (length c.args.table.now.faces) (face_term c.args.table.now (row_at c.args.inner.now) (row_at c.args.outer.now) p q)
      (laurent_of c.zero-sum.result p q) (c.zero-sum.ensures p q);
  bound = λ p q. same_size (laurent_of c.zero-sum.result (pos p) q) (pos 0) 0 (c.zero-sum.ensures (pos p) q) (omega arith);
}

pub loop-face-preserved : goal.loop-face-preserved
loop-face-preserved c = record { sum = sum; bound = bound }
  where
    within : c.loop-face.face < length c.args.table.now.faces
    within = let t = c.loop-face-test.true in let e = c.len-face-end.ensures.value in omega arith

    sum : (p : ℤ) (q : ℕ) → laurent_of c.add_face_term.new.sum p q
        +ℤ sum_over (range_with_len (c.loop-face.face + 1) (length c.args.table.now.faces - (c.loop-face.face + 1))) (face_term c.args.table.now
        (row_at c.args.inner.now) (row_at c.args.outer.now) p q)
        ≡ sum_over (range_with_len 0 (length c.args.table.now.faces)) (face_term c.args.table.now (row_at c.args.inner.now) (row_at c.args.outer.now) p q)
    sum p q = ap (λ (z : ℤ). z +ℤ sum_over (range_with_len (c.loop-face.face + 1) (length c.args.table.now.faces - (c.loop-face.face + 1)))
        (face_term c.args.table.now (row_at c.args.inner.now) (row_at c.args.outer.now) p q)) (c.add_face_term.ensures.value p q)
        ∙ next_sum c.loop-face.face (length c.args.table.now.faces) (face_term c.args.table.now (row_at c.args.inner.now) (row_at c.args.outer.now) p q)
        (laurent_of c.loop-face.sum p q) (face_term c.args.table.now (row_at c.args.inner.now) (row_at c.args.outer.now) p q c.loop-face.face)
        (sum_over (range_with_len 0 (length c.args.table.now.faces)) (face_term c.args.table.now (row_at c.args.inner.now) (row_at c.args.outer.now) p q))
        within refl (c.loop-face.invariant.sum p q)

    bound : (p q : ℕ) → nat_abs (laurent_of c.add_face_term.new.sum (pos p) q) ≤ 2 ^ 108 * (c.loop-face.face + 1)
    bound p q = same_size (laurent_of c.add_face_term.new.sum (pos p) q)
        (laurent_of c.loop-face.sum (pos p) q +ℤ face_term c.args.table.now (row_at c.args.inner.now) (row_at c.args.outer.now) (pos p) q c.loop-face.face)
        (2 ^ 108 * (c.loop-face.face + 1)) (c.add_face_term.ensures.value (pos p) q)
        (term_size (laurent_of c.loop-face.sum (pos p) q) (face_term c.args.table.now (row_at c.args.inner.now) (row_at c.args.outer.now) (pos p) q c.loop-face.face)
        c.loop-face.face (c.add_face_term.ensures.small p q) (c.loop-face.invariant.bound p q))

pub returns-clause-value : goal.returns-clause-value
returns-clause-value c = λ p q. sum_done c.loop-face.face (length c.args.table.now.faces) (face_term c.args.table.now (row_at c.args.inner.now)
    (row_at c.args.outer.now) p q)
    (laurent_of c.loop-face.sum p q) (sum_over (range_with_len 0 (length c.args.table.now.faces)) (face_term c.args.table.now (row_at
    c.args.inner.now) (row_at c.args.outer.now) p q))
    (let t = c.loop-face-test.false in let e = c.len-face-end.ensures.value in omega arith) (c.loop-face.invariant.sum p q)
    ∙ faces_are_numerator c.args.table.now c.requires.faces c.requires.ranks (row_at c.args.inner.now) (row_at c.args.outer.now) p q
