use Rattle.std.proofs.Common.{◌≡◌, ◌⊎◌, true, false, inl, inr, refl, sym, ◌∙◌, arith}
use Rattle.std.proofs.lemmas.Bool.{cases_Bool}
use Rattle.poset_g.specs.Numbered.{numbered}
use Rattle.poset_g.proofs.NumberedFaces.{not_behind, told_below}
use Rattle.poset_g.proofs.places.next_number.Goals as goal

pub returns-then-below : goal.returns-then-below
returns-then-below c = inl (sym (told_below c.args.table.now c.requires.faces c.args.x c.args.y c.below.result c.requires.x c.below.ensures) ∙ c.if-below.true, refl, refl)

pub returns-else-below : goal.returns-else-below
returns-else-below c = inr (sym (told_below c.args.table.now c.requires.faces c.args.x c.args.y c.below.result c.requires.x c.below.ensures) ∙ c.if-below.false, refl, refl)

pub returns-then-x-y : goal.returns-then-x-y
returns-then-x-y c = inr (by (cases_Bool ((numbered c.args.table.now).below c.args.x c.args.y)), refl, refl)
  where
    by : ((numbered c.args.table.now).below c.args.x c.args.y ≡ true) ⊎ ((numbered c.args.table.now).below c.args.x c.args.y ≡ false)
        → (numbered c.args.table.now).below c.args.x c.args.y ≡ false
    by (inl t) = let n = not_behind c.requires.faces.0 c.args.table.now c.requires.faces.1 c.args.x c.args.y c.requires.x c.requires.y t in
        absurd (omega (arith, c.if-x-y.true))
    by (inr f) = f
