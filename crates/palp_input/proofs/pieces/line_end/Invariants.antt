use Rattle.std.proofs.Common.{◌≡◌, ◌+◌, drop}
use Rattle.palp_input.specs.Pieces.{line_len}
use Rattle.palp_input.proofs.pieces.line_end.Given as goal

abbrev pub invariant-loop-at : goal.invariant-loop-at
invariant-loop-at l = l.from + line_len (drop l.from l.text) ≡ l.at + line_len (drop l.at l.text)
