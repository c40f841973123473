use Rattle.std.proofs.Common.{◌≡◌, ◌≤◌, length}
use Rattle.poset_g.specs.Numbered.{numbered}
use Rattle.poset_g.specs.FillSteps.{between, CanFill, AreFilled}
use Rattle.poset_g.proofs.fill.fill_interval.Given as goal

abbrev pub invariant-loop-number : goal.invariant-loop-number
invariant-loop-number l = record {
  ready : CanFill l.table l.places l.values.items;
  filled : AreFilled l.table l.places l.values.items ((numbered l.table).gap l.from l.to) l.from l.to l.number;
  faces : l.faces.items ≡ between l.places l.from l.to;
  few : length l.faces.items ≤ 4096;
}
