use Rattle.std.proofs.Common.{◌≡◌, ℕ, ◌-◌, ◌*◌, ◌^◌, ◌≤◌, ℤ, pos, ◌+ℤ◌, nat_abs, length}
use Rattle.std.specs.List.{range_with_len}
use Rattle.polynomial_theory.specs.Sums.{sum_over}
use Rattle.small_poly.specs.Tables.{laurent_of}
use Rattle.stringy.specs.RowSteps.{row_at, face_term}
use Rattle.stringy.proofs.numerator.numerator_of.Given as goal

abbrev pub invariant-loop-face : goal.invariant-loop-face
invariant-loop-face l = record {
  sum : (p : ℤ) (q : ℕ) → laurent_of l.sum p q +ℤ sum_over (range_with_len l.face (length l.table.faces - l.face)) (face_term l.table (row_at l.inner) (row_at l.outer) p q)
      ≡ sum_over (range_with_len 0 (length l.table.faces)) (face_term l.table (row_at l.inner) (row_at l.outer) p q);
  bound : (p q : ℕ) → nat_abs (laurent_of l.sum (pos p) q) ≤ 2 ^ 108 * l.face;
}
