use Rattle.std.proofs.Common.{◌≡◌, take, ◌++◌, ◌∷◌, []}
use Rattle.hull_growth.specs.steps.Rows.{AreCornerRows}
use Rattle.hull_growth.specs.steps.Growing.{kept_at}
use Rattle.hull_growth.proofs.steps.add_kept.Given as goal

abbrev pub invariant-loop-i : goal.invariant-loop-i
invariant-loop-i l = (l.grown.functions.items ≡ l.initial.grown.functions.items ++ kept_at l.p (take l.i l.facets.functions.items))
    × AreCornerRows (l.corners ++ (l.p ∷ [])) l.grown.functions.items l.grown.rows.items
