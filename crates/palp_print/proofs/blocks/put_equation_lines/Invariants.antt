use Rattle.std.proofs.Common.{◌≡◌, ◌++◌, take}
use Rattle.std.specs.List.{flat_map}
use Rattle.palp_print.specs.Blocks.{equation_line}
use Rattle.palp_print.proofs.blocks.put_equation_lines.Given as goal

abbrev pub invariant-loop-facet : goal.invariant-loop-facet
invariant-loop-facet l = record {
  written : l.text.items ≡ l.initial.text.items ++ flat_map equation_line (take l.facet-index l.facets);
}
