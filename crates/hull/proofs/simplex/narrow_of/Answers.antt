use Rattle.std.proofs.Common.{◌≡◌, ◌∙◌, ap, arith, rules, SFits}
use Rattle.std.specs.Prelude.{nat_abs}
use Rattle.std.specs.Int.{w64}
use Rattle.std.proofs.lemmas.Int.{to_z-of_z}
use Rattle.std.proofs.lemmas.List.{get_or_default}
use Rattle.lattice_theory.specs.Affine.{value}
use Rattle.hull.specs.steps.Facing.{corner_of}
use Rattle.hull.proofs.SimplexAxes.{farthest_nonzero, farther, not_farther}
use Rattle.hull.proofs.simplex.narrow_of.Goals as goal
use Rattle.hull.proofs.simplex.narrow_of.Goals.{then-distance-largest, else-distance-largest}

pub loop-i-preserved : goal.loop-i-preserved
loop-i-preserved c =
    let points = c.args.points.now in
    let f = c.args.f.now in
    let fits : SFits w64 c.narrow_at_in.result = search rules in
    let far = simp to_z-of_z at c.unsigned_abs-distance.ensures.value in
    let here : c.index-points-i.result ≡ corner_of points c.loop-i.i = c.index-points-i.is ∙ get_or_default points c.loop-i.i _ _ c.loop-i-test.true in
    let distance : c.unsigned_abs-distance.result ≡ nat_abs (value f (corner_of points c.loop-i.i)) =
    far ∙ ap nat_abs (c.narrow_at_in.ensures ∙ ap (value f) here) in
    elim c.if-distance-largest.branch [
      | then-distance-largest w ↦ rw (w.far-is, w.largest-is) (farther points f c.loop-i.i c.loop-i.far c.loop-i.largest c.unsigned_abs-distance.result
          c.loop-i-test.true distance (w.if-distance-largest.true) c.loop-i.invariant)
      | else-distance-largest w ↦ rw (w.far-is, w.largest-is) (not_farther points f c.loop-i.i c.loop-i.far c.loop-i.largest
          c.unsigned_abs-distance.result distance (w.if-distance-largest.false) c.loop-i.invariant)
    ]

pub returns-clause-nonzero : goal.returns-clause-nonzero
returns-clause-nonzero c = farthest_nonzero c.args.points.now c.args.f.now c.loop-i.i c.loop-i.far c.loop-i.largest (omega arith)
    c.loop-i.invariant c.requires.somewhere
