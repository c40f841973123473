use Rattle.std.proofs.Common.{◌≡◌, drop}
use Rattle.palp_input.specs.Pieces.{pieces_of}
use Rattle.palp_input.proofs.pieces.blanks_end.Given as goal

abbrev pub invariant-loop-at : goal.invariant-loop-at
invariant-loop-at l = pieces_of l.from (drop l.from l.text) ≡ pieces_of l.at (drop l.at l.text)
