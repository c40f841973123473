use Rattle.std.proofs.Common.{◌≡◌, ◌-◌, ◌*◌, ◌≤◌, ◌+ℤ◌, length, nat_abs, slice_index_or}
use Rattle.polynomial_theory.specs.Sums.{sum_over}
use Rattle.polynomial_theory.proofs.Splits.{sum_from}
use Rattle.poset_g.specs.FillSteps.{place_of, kept_term}
use Rattle.poset_g.proofs.sums.sum_of.Given as goal

abbrev pub invariant-loop-i : goal.invariant-loop-i
invariant-loop-i l = record {
  sum : l.sum +ℤ sum_from (length l.faces - l.i) l.i (λ j. kept_term l.table (place_of l.wanted) (slice_index_or l.faces j 0)) ≡ sum_over l.faces
      (kept_term l.table (place_of l.wanted));
  size : nat_abs l.sum ≤ l.i * 1048576;
}
