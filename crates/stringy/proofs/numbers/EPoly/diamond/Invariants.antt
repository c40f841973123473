use Rattle.std.proofs.Common.{◌≡◌, ◌*◌, ◌≤◌, flat_map}
use Rattle.std.specs.List.{range_with_len}
use Rattle.arrayvec.specs.ArrayVec.{array_vec_len}
use Rattle.stringy.specs.Numbers.{hodge_line}
use Rattle.stringy.proofs.numbers.EPoly.diamond.Given as goal

abbrev pub invariant-loop-p : goal.invariant-loop-p
invariant-loop-p l = record {
  items : l.numbers.items ≡ flat_map (hodge_line l.self) (range_with_len 0 l.p);
  count : array_vec_len l.numbers ≤ 7 * l.p;
}
