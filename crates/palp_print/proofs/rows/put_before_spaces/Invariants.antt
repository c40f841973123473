use Rattle.std.proofs.Common.{◌≡◌, ◌++◌, take}
use Rattle.palp_print.specs.Texts.{before_spaces}
use Rattle.palp_print.proofs.rows.put_before_spaces.Given as goal

abbrev pub invariant-loop-number : goal.invariant-loop-number
invariant-loop-number g l = record {
  written : l.text.items ≡ l.initial.text.items ++ before_spaces g.I.Integer.text (take l.number-index l.numbers);
}
