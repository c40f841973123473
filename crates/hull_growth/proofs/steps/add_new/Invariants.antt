use Rattle.std.proofs.Common.{take, ◌++◌, ◌∷◌, []}
use Rattle.hull_growth.specs.steps.Rows.{AreCornerRows}
use Rattle.hull_growth.specs.steps.Growing.{Appends, IsNewOf}
use Rattle.hull_growth.proofs.steps.add_new.Given as goal

abbrev pub invariant-loop-i : goal.invariant-loop-i
invariant-loop-i l = Appends (IsNewOf l.corners l.p (take l.i l.facets.functions.items) l.facets.functions.items)
    l.initial.grown.functions.items l.grown.functions.items
    × AreCornerRows (l.corners ++ (l.p ∷ [])) l.grown.functions.items l.grown.rows.items
