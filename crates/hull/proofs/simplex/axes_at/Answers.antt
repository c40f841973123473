use Rattle.std.proofs.Common.{◌<ℤ◌, pos, sym, subst, ◌∙◌, rules, SFits, IsTrue}
use Rattle.std.specs.Int.{w128}
use Rattle.std.proofs.lemmas.Int.{to_z-of_z}
use Rattle.std.proofs.lemmas.Bool.{true≢false}
use Rattle.lattice_theory.specs.Affine.{Affine}
use Rattle.hull.specs.steps.Facing.{AreAxes}
use Rattle.hull.proofs.SimplexAxes.{axes_forward, axes_backward}
use Rattle.hull.proofs.simplex.axes_at.Goals as goal

pub returns-then-is_positive : goal.returns-then-is_positive
returns-then-is_positive c =
    let fits : SFits w128 c.at.result = search rules in
    let positive = simp to_z-of_z at (c.is_positive.ensures.0 c.if-is_positive.true) in
    subst (λ (f : Affine). AreAxes c.args.f.now c.args.p.now f c.opposite.result) (sym c.copied.ensures)
    (axes_forward c.args.f.now c.opposite.result c.args.p.now c.opposite.ensures.normal c.opposite.ensures.constant c.requires.primitive
    c.requires.small (subst (λ a. pos 0 <ℤ a) c.at.ensures positive))

pub returns-else-is_positive : goal.returns-else-is_positive
returns-else-is_positive c =
    let fits : SFits w128 c.at.result = search rules in
    let back : pos 0 <ℤ c.at.result → IsTrue c.is_positive.result = simp to_z-of_z at c.is_positive.ensures.1 in
    subst (λ (f : Affine). AreAxes c.args.f.now c.args.p.now c.opposite-else-is_positive.result f)
    (sym c.copied-else-is_positive.ensures)
    (axes_backward c.args.f.now c.opposite-else-is_positive.result c.args.p.now c.opposite-else-is_positive.ensures.normal
    c.opposite-else-is_positive.ensures.constant c.requires.primitive c.requires.small c.requires.nonzero
    (λ h. true≢false (sym (back (subst (λ a. pos 0 <ℤ a) (sym c.at.ensures) h)) ∙ c.if-is_positive.false)))
