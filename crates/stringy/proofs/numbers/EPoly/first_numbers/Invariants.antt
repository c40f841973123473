use Rattle.std.proofs.Common.{◌≡◌, ◌-◌, ◌≤◌, map}
use Rattle.std.specs.List.{range_with_len}
use Rattle.arrayvec.specs.ArrayVec.{array_vec_len}
use Rattle.stringy.specs.Numbers.{hodge_above}
use Rattle.stringy.proofs.numbers.EPoly.first_numbers.Given as goal

abbrev pub invariant-loop-p : goal.invariant-loop-p
invariant-loop-p l = record {
  items : l.numbers.items ≡ map (hodge_above l.self) (range_with_len 1 (l.p - 1));
  count : array_vec_len l.numbers ≤ l.p;
  least : 1 ≤ l.p;
  most : l.p - 1 ≤ l.self.dim - 1;
}
