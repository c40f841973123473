use Rattle.std.proofs.Common.{◌≡◌, ◌++◌, take, [], ◌∷◌}
use Rattle.palp_print.specs.Texts.{behind}
use Rattle.palp_print.proofs.rows.put_behind.Given as goal

abbrev pub invariant-loop-number : goal.invariant-loop-number
invariant-loop-number g l = record {
  written : l.text.items ≡ l.initial.text.items ++ behind (l.mark ∷ []) g.I.Integer.text (take l.number-index l.numbers);
}
