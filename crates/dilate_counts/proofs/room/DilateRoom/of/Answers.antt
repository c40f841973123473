use Rattle.std.proofs.Common.{ℕ, subst, ◌∙◌}
use Rattle.dilate_counts.specs.KeptSteps.{AreFit}
use Rattle.dilate_counts.proofs.FirstCounter.{first_dimension}
use Rattle.dilate_counts.proofs.Kept.{held}
use Rattle.dilate_counts.proofs.room.DilateRoom.of.Goals as goal

pub invariant_of-result : goal.invariant_of-result
invariant_of-result c =
    held c.args.vertices.now c.in_ok-copies.field-0.items c.args.dilate c.in_ok-whole.whole _ c.for_each_dilate.new.visitor c.into_points.result.items
    c.new.ensures.items c.in_ok-whole.ensures.visits c.into_points.ensures.points
    (subst (λ (n : ℕ). AreFit n c.into_points.result.items) (c.for_each_dilate.ensures.dimension ∙ c.dim.ensures.value
    ∙ first_dimension c.args.vertices.now c.index-vertices-0.result c.requires.vertices.sized.are_points.some c.index-vertices-0.is)
    c.into_points.ensures.fit)
    c.in_ok-copies.ensures
