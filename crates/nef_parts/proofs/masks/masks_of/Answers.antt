use Rattle.std.proofs.Common.{◌+◌, List, [], ℤ, length, sym, ◌∙◌, subst}
use Rattle.std.proofs.lemmas.List.{get_or_default}
use Rattle.nef_parts.specs.steps.Rows.{IsPairable, ArePairings}
use Rattle.nef_parts.specs.steps.Tables.{IsMask, AreMasks}
use Rattle.nef_parts.proofs.MaskSteps.{masks_more}
use Rattle.nef_parts.proofs.masks.masks_of.Goals as goal

pub mask_of-requires-clause-pairable : goal.mask_of-requires-clause-pairable
mask_of-requires-clause-pairable c =
    subst (IsPairable c.args.normals.now) (sym c.index-vertices-v.is)
    (c.requires.vertices c.loop-v.v c.index-vertices-v.result c.loop-v-test.true)

pub loop-v-preserved : goal.loop-v-preserved
loop-v-preserved c =
    let vertices = c.args.vertices.now in
    let normals = c.args.normals.now in
    let points = c.args.points.now in
    let v = c.loop-v.v in
    let x = c.index-vertices-v.result in
    let rows = subst (ArePairings (length points) normals points) (sym c.deref.ensures.value) c.in_ok-rows.ensures in
    subst (AreMasks (v + 1) vertices normals points) (sym c.in_ok-push.ensures.items)
    (masks_more v vertices normals points c.loop-v.masks.items c.in_ok-mask_of.field-0 c.loop-v.invariant
    (subst (λ (y : List ℤ). IsMask normals points y c.in_ok-mask_of.field-0)
    (c.index-vertices-v.is ∙ get_or_default vertices v x [] c.loop-v-test.true) (c.in_ok-mask_of.ensures points rows)))
