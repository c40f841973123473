use Rattle.std.proofs.Common.{length, ℕ, ◌≡◌, sym, subst, arith}
use Rattle.poset_g.specs.Numbered.{numbered}
use Rattle.poset_g.specs.PlaceSteps.{ArePlacesTo}
use Rattle.poset_g.proofs.places.Places.of.Goals as goal

pub returns-clause-places : goal.returns-clause-places
returns-clause-places c =
    subst (λ (n : ℕ). ArePlacesTo (numbered c.args.table.now) (length c.args.table.now.faces) (length c.args.table.now.faces) 0
    (record { count = n; total = c.loop-row.total; table = c.loop-row.places.items })) (sym c.len-count.ensures.value)
    (subst (λ (k : ℕ). ArePlacesTo (numbered c.args.table.now) (length c.args.table.now.faces) k 0
    (record { count = length c.args.table.now.faces; total = c.loop-row.total; table = c.loop-row.places.items })) (ended c) c.loop-row.invariant.places)
  where
    ended : (c : goal.After-loop-row) → c.loop-row.row ≡ length c.args.table.now.faces
    ended c = let e = c.loop-row-test.false in let f = c.loop-row.auto.row-end in let g = c.len-row-end.ensures.value in omega arith
