use Rattle.std.proofs.Common.{length, List, ℕ, ◌+◌, sym, subst, arith, ◌≡◌}
use Rattle.poset_g.specs.Numbered.{numbered}
use Rattle.poset_g.specs.PlaceSteps.{ArePlacesTo}
use Rattle.poset_g.proofs.NumberedIntervals.{next_more, row_more}
use Rattle.poset_g.proofs.places.add_row.Goals as goal

pub loop-face-preserved : goal.loop-face-preserved
loop-face-preserved c = record {
  places = subst (λ (t : List ℕ). ArePlacesTo (numbered c.args.table.now) (length c.args.table.now.faces) c.args.row (c.loop-face.face + 1)
      (record { count = length c.args.table.now.faces; total = c.next_number-next.result.0; table = t })) (sym c.in_ok-push.ensures.items)
      (next_more (numbered c.args.table.now) (length c.args.table.now.faces) c.args.row c.loop-face.face c.loop-face.total c.loop-face.places.items
      c.loop-face.invariant.places c.next_number-next.result.0 c.next_number-next.result.1 c.next_number-next.ensures);
}

pub returns-clause-done : goal.returns-clause-done
returns-clause-done c = row_more (numbered c.args.table.now) (length c.args.table.now.faces) c.args.row
    (record { count = length c.args.table.now.faces; total = c.loop-face.total; table = c.loop-face.places.items })
    (subst (λ (k : ℕ). ArePlacesTo (numbered c.args.table.now) (length c.args.table.now.faces) c.args.row k
    (record { count = length c.args.table.now.faces; total = c.loop-face.total; table = c.loop-face.places.items })) (ended c) c.loop-face.invariant.places)
  where
    ended : (c : goal.After-loop-face) → c.loop-face.face ≡ length c.args.table.now.faces
    ended c = let e = c.loop-face-test.false in let f = c.loop-face.auto.face-end in let g = c.len-face-end.ensures.value in omega arith
