use Rattle.std.proofs.Common.{◌≡◌, ◌++◌, take}
use Rattle.std.specs.List.{flat_map}
use Rattle.lattice_theory.specs.Affine.{value}
use Rattle.palp_print.specs.Blocks.{mark}
use Rattle.palp_print.proofs.blocks.put_mark_line.Given as goal

abbrev pub invariant-loop-vertex : goal.invariant-loop-vertex
invariant-loop-vertex l = record {
  written : l.text.items ≡ l.initial.text.items ++ flat_map (λ p. mark (value l.facet p)) (take l.vertex-index l.vertices);
}
