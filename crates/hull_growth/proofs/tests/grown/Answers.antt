use Rattle.std.proofs.Common.{rules, SFits, ◌++◌, ◌∷◌, [], List, ℤ, length, sym, ap, subst, ◌∙◌}
use Rattle.std.specs.Int.{w64}
use Rattle.std.proofs.lemmas.Int.{to_z-of_z}
use Rattle.lattice_theory.specs.Examples.{segment}
use Rattle.lattice_core.specs.Dimensions.{dimension_of}
use Rattle.lattice_core.specs.Limits.{IsSized}
use Rattle.hull_growth.proofs.SegmentHull.{near_within}
use Rattle.hull_growth.proofs.tests.grown.Goals as goal

pub grow-requires-clause-dimension : goal.grow-requires-clause-dimension
grow-requires-clause-dimension c = ap length c.on_line.ensures ∙ sym (ap dimension_of c.in_ok-growth.ensures.corners)

pub grow-requires-clause-within : goal.grow-requires-clause-within
grow-requires-clause-within c =
    let fits : SFits w64 c.args.x = search rules in
    subst (λ (cs : List (List ℤ)). IsSized (length c.on_line.result) (cs ++ (c.on_line.result ∷ []))) (sym c.in_ok-growth.ensures.corners)
    (subst (λ (p : List ℤ). IsSized (length p) (segment ++ (p ∷ []))) (sym (simp to_z-of_z at c.on_line.ensures)) (near_within c.args.x c.requires))
