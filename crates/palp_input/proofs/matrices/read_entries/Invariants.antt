use Rattle.std.proofs.Common.{◌≡◌, ◌≤◌, length, drop}
use Rattle.palp_input.specs.Pieces.{pieces_of}
use Rattle.palp_input.specs.Lines.{matrix_read}
use Rattle.palp_input.specs.LineSteps.{matrix_behind}
use Rattle.palp_input.proofs.matrices.read_entries.Given as goal

abbrev pub invariant-loop-left : goal.invariant-loop-left
invariant-loop-left l = record {
  least : l.from ≤ l.place;
  within : l.place ≤ length l.text;
  so_far : matrix_read l.text l.count l.from (pieces_of l.from (drop l.from l.text))
      ≡ matrix_behind l.entries.items (matrix_read l.text l.left l.place (pieces_of l.place (drop l.place l.text)));
}

abbrev pub decreases-loop-left : goal.decreases-loop-left
decreases-loop-left l = l.left
