use Rattle.std.proofs.Common.{length}
use Rattle.poset_g.specs.Numbered.{numbered}
use Rattle.poset_g.specs.PlaceSteps.{ArePlacesTo}
use Rattle.poset_g.proofs.places.Places.of.Given as goal

abbrev pub invariant-loop-row : goal.invariant-loop-row
invariant-loop-row l = record {
  places : ArePlacesTo (numbered l.table) (length l.table.faces) l.row 0 (record { count = length l.table.faces; total = l.total; table = l.places.items });
}
