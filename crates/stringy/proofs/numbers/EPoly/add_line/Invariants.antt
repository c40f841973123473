use Rattle.std.proofs.Common.{◌≡◌, ◌+◌, ◌++◌, map}
use Rattle.std.specs.List.{range_with_len}
use Rattle.arrayvec.specs.ArrayVec.{array_vec_len}
use Rattle.stringy.specs.Numbers.{hodge_at}
use Rattle.stringy.proofs.numbers.EPoly.add_line.Given as goal

abbrev pub invariant-loop-q : goal.invariant-loop-q
invariant-loop-q l = record {
  items : l.numbers.items ≡ l.initial.numbers.items ++ map (hodge_at l.self l.p) (range_with_len 0 l.q);
  count : array_vec_len l.numbers ≡ array_vec_len l.initial.numbers + l.q;
}
