use Rattle.std.proofs.Common.{◌≡◌, ◌++◌, take}
use Rattle.std.specs.Fmt.{signed_decimal}
use Rattle.palp_print.specs.Texts.{behind_spaces}
use Rattle.lattice_theory.specs.Affine.{value}
use Rattle.palp_print.proofs.blocks.put_values.Given as goal

abbrev pub invariant-loop-vertex : goal.invariant-loop-vertex
invariant-loop-vertex l = record {
  written : l.text.items ≡ l.initial.text.items ++ behind_spaces (λ p. signed_decimal (value l.facet p)) (take l.vertex-index l.vertices);
}
