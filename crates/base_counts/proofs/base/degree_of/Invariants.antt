use Rattle.std.proofs.Common.{◌≡◌, ◌*◌, ◌^◌, ◌≤◌, take}
use Rattle.std.specs.Prelude.{nat_abs}
use Rattle.cayley_theory.specs.Counts.{sum_of}
use Rattle.base_counts.proofs.base.degree_of.Given as goal

abbrev pub invariant-loop-height : goal.invariant-loop-height
invariant-loop-height l = record {
  sum : l.degree ≡ sum_of (take l.height-index l.base);
  small : nat_abs l.degree ≤ l.height-index * 2 ^ 100;
}
