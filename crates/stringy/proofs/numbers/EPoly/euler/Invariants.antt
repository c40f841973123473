use Rattle.std.proofs.Common.{◌≡◌, ◌+◌, ◌-◌, ◌*◌, ◌^◌, ◌≤◌, ◌+ℤ◌, nat_abs}
use Rattle.std.specs.List.{range_with_len}
use Rattle.polynomial_theory.specs.Sums.{sum_over}
use Rattle.stringy.specs.Numbers.{line_sum, euler_of}
use Rattle.stringy.proofs.numbers.EPoly.euler.Given as goal

abbrev pub invariant-loop-p : goal.invariant-loop-p
invariant-loop-p l = record {
  sum : l.sum +ℤ sum_over (range_with_len l.p (l.self.dim + 1 - l.p)) (line_sum l.self) ≡ euler_of l.self;
  bound : nat_abs l.sum ≤ 2 ^ 120 * 7 * l.p;
}
