use Rattle.std.proofs.Common.{◌≡◌, ◌+◌, ◌-◌, ◌*◌, ◌^◌, ◌≤◌, ◌+ℤ◌, nat_abs}
use Rattle.std.specs.List.{range_with_len}
use Rattle.polynomial_theory.specs.Sums.{sum_over}
use Rattle.stringy.specs.Numbers.{number_at, line_sum}
use Rattle.stringy.proofs.numbers.EPoly.line.Given as goal

abbrev pub invariant-loop-q : goal.invariant-loop-q
invariant-loop-q l = record {
  sum : l.sum +ℤ sum_over (range_with_len l.q (l.self.dim + 1 - l.q)) (number_at l.self l.p) ≡ line_sum l.self l.p;
  bound : nat_abs l.sum ≤ 2 ^ 120 * l.q;
}
