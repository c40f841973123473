use Rattle.poset_g.specs.FillSteps.{CanFill, AreFilled}
use Rattle.poset_g.proofs.fill.fill.Given as goal

abbrev pub invariant-loop-gap : goal.invariant-loop-gap
invariant-loop-gap l = record {
  ready : CanFill l.table l.places l.values.items;
  filled : AreFilled l.table l.places l.values.items l.gap 0 0 0;
}
