use Rattle.std.proofs.Common.{◌≡◌, ◌++◌}
use Rattle.std.specs.List.{flat_map, range_with_len}
use Rattle.palp_print.specs.Partitions.{diamond_line}
use Rattle.palp_print.proofs.partitions.put_diamond.Given as goal

abbrev pub invariant-loop-p : goal.invariant-loop-p
invariant-loop-p l = record {
  written : l.text.items ≡ l.initial.text.items ++ flat_map (diamond_line l.width l.numbers) (range_with_len 0 l.p);
}
