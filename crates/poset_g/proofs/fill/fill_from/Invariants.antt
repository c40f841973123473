use Rattle.poset_g.specs.FillSteps.{CanFill, AreFilled}
use Rattle.poset_g.proofs.fill.fill_from.Given as goal

abbrev pub invariant-loop-to : goal.invariant-loop-to
invariant-loop-to l = record {
  ready : CanFill l.table l.places l.values.items;
  filled : AreFilled l.table l.places l.values.items l.gap l.from l.to 0;
}
