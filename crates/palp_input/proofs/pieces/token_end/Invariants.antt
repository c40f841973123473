use Rattle.std.proofs.Common.{◌≡◌, ℕ, ◌≤◌, ◌<◌, true, slice_index}
use Rattle.palp_input.specs.Pieces.{is_token_byte}
use Rattle.palp_input.proofs.pieces.token_end.Given as goal

abbrev pub invariant-loop-at : goal.invariant-loop-at
invariant-loop-at l = (k : ℕ) → l.from ≤ k → k < l.at → is_token_byte (slice_index l.text k) ≡ true
