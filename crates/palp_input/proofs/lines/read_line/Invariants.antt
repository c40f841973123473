use Rattle.std.proofs.Common.{◌≡◌, ◌≤◌, ◌-◌, true, length, drop}
use Rattle.std.specs.Prelude.{◌==◌, vec_len}
use Rattle.palp_input.specs.Pieces.{pieces_of}
use Rattle.palp_input.specs.Lines.{line_read}
use Rattle.palp_input.proofs.ReadSoFar.{line_behind}
use Rattle.palp_input.proofs.lines.read_line.Given as goal

abbrev pub invariant-loop-number : goal.invariant-loop-number
invariant-loop-number l = record {
  within : l.place ≤ length l.text;
  so_far : line_read l.text true (pieces_of l.from (drop l.from l.text))
      ≡ line_behind l.numbers.items (line_read l.text (vec_len l.numbers == 0) (pieces_of l.place (drop l.place l.text)));
}

abbrev pub decreases-loop-number : goal.decreases-loop-number
decreases-loop-number l = length l.text - l.place
