use Rattle.std.proofs.Common.{ℕ, ◌+◌, ◌<◌, ◌≤◌, length}
use Rattle.face_poset.specs.Faces.{face_at}
use Rattle.poset_g.specs.FillSteps.{CanFill, AreFilled, AreLower}
use Rattle.poset_g.proofs.fill.fill_gap.Given as goal

abbrev pub invariant-loop-from : goal.invariant-loop-from
invariant-loop-from l = record {
  ready : CanFill l.table l.places l.values.items;
  filled : AreFilled l.table l.places l.values.items l.gap l.from 0 0;
  lower : (later : ℕ) → l.from ≤ later → later < length l.table.faces → AreLower l.table l.first ((face_at l.table.faces later).rank + l.gap);
}
