use Rattle.std.proofs.Common.{◌≡◌, ◌++◌, take}
use Rattle.std.specs.List.{flat_map}
use Rattle.palp_print.specs.Blocks.{mark_line}
use Rattle.palp_print.proofs.blocks.put_mark_lines.Given as goal

abbrev pub invariant-loop-facet : goal.invariant-loop-facet
invariant-loop-facet l = record {
  written : l.text.items ≡ l.initial.text.items ++ flat_map (mark_line l.vertices) (take l.facet-index l.facets);
}
