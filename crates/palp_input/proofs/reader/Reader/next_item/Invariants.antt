use Rattle.std.proofs.Common.{◌+◌, ◌-◌, ◌*◌, ◌≤◌, cond, length, take}
use Rattle.palp_input.specs.Grammar.{most_bytes}
use Rattle.palp_input.specs.OpeningSteps.{Seen}
use Rattle.palp_input.proofs.Takes.{TakenSoFar}
use Rattle.palp_input.proofs.reader.Reader.next_item.Given as goal

abbrev pub invariant-loop-item : goal.invariant-loop-item
invariant-loop-item g l = record {
  so_far : TakenSoFar l.fn.self l.self (g.S.Source.state l.fn.src) (g.S.Source.state l.src);
  passed_most : l.fn.self.bytes ≤ most_bytes;
  within : l.looked ≤ length l.self.held;
  seen : Seen (take l.looked l.self.held) l.opening;
}

abbrev pub decreases-loop-item : goal.decreases-loop-item
decreases-loop-item g l = (most_bytes + 1 - (l.self.bytes + length l.self.held)) * 2 + cond l.self.ended 0 1
