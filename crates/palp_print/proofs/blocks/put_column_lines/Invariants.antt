use Rattle.std.proofs.Common.{◌≡◌, ◌++◌}
use Rattle.std.specs.List.{flat_map, range_with_len}
use Rattle.palp_print.specs.Blocks.{column_line}
use Rattle.palp_print.proofs.blocks.put_column_lines.Given as goal

abbrev pub invariant-loop-i : goal.invariant-loop-i
invariant-loop-i l = record {
  written : l.text.items ≡ l.initial.text.items ++ flat_map (column_line l.points) (range_with_len 0 l.i);
}
