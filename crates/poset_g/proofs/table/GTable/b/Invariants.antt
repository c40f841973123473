use Rattle.std.proofs.Common.{◌≡◌, ◌*◌, ◌≤◌, ℕ, ℤ, pos, nat_abs}
use Rattle.std.specs.List.{range_with_len}
use Rattle.polynomial_theory.specs.Sums.{sum_over}
use Rattle.small_poly.specs.Tables.{laurent_of}
use Rattle.poset_g.specs.TermSteps.{kept_term_at}
use Rattle.poset_g.proofs.table.GTable.b.Given as goal

abbrev pub invariant-loop-face : goal.invariant-loop-face
invariant-loop-face l = record {
  value : (p : ℤ) (q : ℕ) → laurent_of l.sum p q ≡ sum_over (range_with_len 0 l.face) (λ f. kept_term_at l.table l.x l.y f p q);
  small : (i j : ℕ) → nat_abs (laurent_of l.sum (pos i) j) ≤ l.face * 16777216;
}
