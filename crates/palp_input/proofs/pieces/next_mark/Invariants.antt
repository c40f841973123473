use Rattle.std.proofs.Common.{◌≡◌, ◌≤◌, ◌-◌, length, drop}
use Rattle.palp_input.specs.Pieces.{pieces_of}
use Rattle.palp_input.specs.PieceSteps.{without_line_ends}
use Rattle.palp_input.proofs.pieces.next_mark.Given as goal

abbrev pub invariant-loop-at : goal.invariant-loop-at
invariant-loop-at l = record {
  least : l.from ≤ l.place;
  within : l.place ≤ length l.text;
  so_far : without_line_ends (pieces_of l.from (drop l.from l.text)) ≡ without_line_ends (pieces_of l.place (drop l.place l.text));
}

abbrev pub decreases-loop-at : goal.decreases-loop-at
decreases-loop-at l = length l.text - l.place
