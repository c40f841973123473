use Rattle.std.proofs.Common.{◌∷◌, [], length, sym, subst, ◌∙◌, All}
use Rattle.lattice_theory.specs.Vector.{HaveDimension}
use Rattle.lattice_theory.proofs.SegmentFacets.{lower, upper}
use Rattle.lattice_core.specs.ValueWidths.{IsNarrowAt}
use Rattle.hull_growth.proofs.SegmentHull.{right_match, sides_narrow}
use Rattle.hull_growth.proofs.tests.beyond.Goals as goal

pub first_beyond-requires-clause-dimension : goal.first_beyond-requires-clause-dimension
first_beyond-requires-clause-dimension c =
    subst (All (λ f. HaveDimension (length f.normal) c.deref-2.result.now)) (sym (c.deref.ensures.value ∙ c.in_ok-facets.ensures))
    (subst (λ ps. All (λ f. HaveDimension (length f.normal) ps) (lower ∷ upper ∷ [])) (sym (c.deref-2.ensures.value ∙ c.in_ok-points.ensures)) right_match)

pub first_beyond-requires-clause-fits : goal.first_beyond-requires-clause-fits
first_beyond-requires-clause-fits c =
    subst (All (λ f. All (IsNarrowAt f) c.deref-2.result.now)) (sym (c.deref.ensures.value ∙ c.in_ok-facets.ensures))
    (subst (λ ps. All (λ f. All (IsNarrowAt f) ps) (lower ∷ upper ∷ [])) (sym (c.deref-2.ensures.value ∙ c.in_ok-points.ensures)) sides_narrow)
