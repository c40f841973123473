use Rattle.std.proofs.Common.{◌≡◌, ◌++◌, take}
use Rattle.std.specs.Fmt.{signed_decimal}
use Rattle.palp_print.specs.Texts.{behind_spaces}
use Rattle.lattice_theory.specs.Vector.{entry}
use Rattle.palp_print.proofs.blocks.put_entries.Given as goal

abbrev pub invariant-loop-point : goal.invariant-loop-point
invariant-loop-point l = record {
  written : l.text.items ≡ l.initial.text.items ++ behind_spaces (λ p. signed_decimal (entry p l.i)) (take l.point-index l.points);
}
