use Rattle.std.proofs.Common.{length}
use Rattle.poset_g.specs.Numbered.{numbered}
use Rattle.poset_g.specs.PlaceSteps.{ArePlacesTo}
use Rattle.poset_g.proofs.places.add_row.Given as goal

abbrev pub invariant-loop-face : goal.invariant-loop-face
invariant-loop-face l = record {
  places : ArePlacesTo (numbered l.table) (length l.table.faces) l.row l.face (record { count = length l.table.faces; total = l.total; table = l.places.items });
}
