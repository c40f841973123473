use Rattle.std.proofs.Common.{◌≡◌, ℕ, ◌-◌, ◌*◌, ◌^◌, ◌<◌, ◌≤◌, ◌+ℤ◌, nat_abs, length}
use Rattle.std.specs.List.{range_with_len}
use Rattle.lattice_theory.specs.Vector.{entry}
use Rattle.polynomial_theory.specs.Sums.{sum_over}
use Rattle.stringy.specs.RowSteps.{row_at, term_of}
use Rattle.stringy.proofs.tilde.tilde_row.Given as goal

abbrev pub invariant-loop-other : goal.invariant-loop-other
invariant-loop-other l = record {
  whole : length l.sums ≡ 9;
  sum : (k : ℕ) → k < 9 → entry l.sums k +ℤ sum_over (range_with_len l.other (length l.table.faces - l.other)) (term_of l.table l.side (row_at l.rows) l.face k)
      ≡ sum_over (range_with_len 0 (length l.table.faces)) (term_of l.table l.side (row_at l.rows) l.face k);
  bound : (k : ℕ) → nat_abs (entry l.sums k) ≤ 2 ^ 42 * l.other;
}
