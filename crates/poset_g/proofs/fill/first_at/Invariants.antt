use Rattle.poset_g.specs.FillSteps.{AreLower}
use Rattle.poset_g.proofs.fill.first_at.Given as goal

abbrev pub invariant-loop-face : goal.invariant-loop-face
invariant-loop-face l = record {
  before : AreLower l.table l.face l.rank;
}
