use Rattle.std.proofs.Common.{◌≡◌, slice_index_or, ◌++◌, ◌∷◌, []}
use Rattle.lattice_theory.specs.Affine.{Affine}
use Rattle.hull_growth.specs.steps.Rows.{AreCornerRows}
use Rattle.hull_growth.proofs.NewFacetTurns.{HasNewWith}
use Rattle.hull_growth.proofs.steps.add_new_with.Given as goal

abbrev pub invariant-loop-j : goal.invariant-loop-j
invariant-loop-j l = ((f : Affine) → f ≡ slice_index_or l.facets.functions.items l.i f
    → HasNewWith l.corners l.p f l.facets.functions.items l.j l.initial.grown.functions.items l.grown.functions.items)
    × AreCornerRows (l.corners ++ (l.p ∷ [])) l.grown.functions.items l.grown.rows.items
