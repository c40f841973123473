use Rattle.region_walk.specs.Regions.{levels_of}
use Rattle.region_walk.specs.steps.Beginnings.{IsBeginning, IsFurther}
use Rattle.region_walk.specs.steps.Looks.{ahead}
use Rattle.region_walk.proofs.walk.find_run.Given as goal

abbrev pub invariant-loop-span : goal.invariant-loop-span
invariant-loop-span l = record {
  opened : IsBeginning l.region.low l.region.high (levels_of l.region) l.beginning.entries.items l.beginning.ends.items;
  further : IsFurther l.region.low l.region.high (levels_of l.region) l.fn.beginning.entries.items l.beginning.entries.items;
}

abbrev pub decreases-loop-span : goal.decreases-loop-span
decreases-loop-span l = ahead l.region.low l.region.high l.beginning.entries.items
