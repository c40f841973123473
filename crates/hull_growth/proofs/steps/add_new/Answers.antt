use Rattle.std.proofs.Common.{slice_index_or, SFits, rules, length, ◌<◌, ◌+◌, ◌≤ℤ◌, ◌++◌, ◌∷◌, [], pos, take, List, ℕ, ap, subst}
use Rattle.std.specs.Int.{w128}
use Rattle.std.proofs.lemmas.Int.{to_z-of_z}
use Rattle.lattice_theory.specs.Affine.{Affine}
use Rattle.hull_growth.specs.steps.Rows.{AreCornerRows}
use Rattle.hull_growth.specs.steps.Growing.{Appends, IsNewOf}
use Rattle.hull_growth.proofs.SignTests.{not_above_zero}
use Rattle.hull_growth.proofs.ValueLists.{value_of, function_at, stands_there}
use Rattle.hull_growth.proofs.Appending.{both_same}
use Rattle.hull_growth.proofs.NewFacetTurns.{of_more, of_same}
use Rattle.hull_growth.proofs.steps.add_new.Goals as goal
use Rattle.hull_growth.proofs.steps.add_new.Goals.{then-values-i-gt0+in_ok-add_new_with, else-values-i-gt0}

pub loop-i-preserved : goal.loop-i-preserved
loop-i-preserved c =
    let fs = c.args.facets.now.functions.items in
    let rows = c.args.facets.now.rows.items in
    let corners = c.args.corners.now in
    let p = c.args.p.now in
    let s = c.requires.step in
    let values = c.args.values.now in
    let v = slice_index_or values c.loop-i.i (pos 0) in
    let fits : SFits w128 (slice_index_or values c.loop-i.i (pos 0)) = search rules in
    let within : c.loop-i.i < length fs = search rules in
    let f = function_at fs c.loop-i.i in
    let stands = stands_there fs c.loop-i.i within in
    let IsTurned : List Affine → List ℕ → Type 0 = λ us bits. Appends (IsNewOf corners p (take (c.loop-i.i + 1) fs) fs)
    c.args.grown.now.functions.items us × AreCornerRows (corners ++ (p ∷ [])) us bits in
    elim c.if-values-i-gt0.branch [
      | then-values-i-gt0+in_ok-add_new_with w ↦
          both_same IsTurned _ _ _ _ (ap (λ u. u.functions.items) w.grown-is) (ap (λ u. u.rows.items) w.grown-is) (
            of_more corners fs rows p s f c.loop-i.i c.args.grown.now.functions.items c.loop-i.grown.functions.items
                w.add_new_with.new.grown.functions.items within stands c.loop-i.invariant.0
                (w.in_ok-add_new_with.ensures.functions f stands),
            w.in_ok-add_new_with.ensures.rows,
          )
      | else-values-i-gt0 w ↦
          both_same IsTurned _ _ _ _ (ap (λ u. u.functions.items) w.grown-is) (ap (λ u. u.rows.items) w.grown-is) (
            of_same corners fs rows p s f c.loop-i.i c.args.grown.now.functions.items c.loop-i.grown.functions.items within stands
                (subst (λ z. z ≤ℤ pos 0) (value_of p fs values c.loop-i.i f within stands c.requires.values)
                (not_above_zero v (rw (to_z-of_z w128 v fits) at w.if-values-i-gt0.false))) c.loop-i.invariant.0,
            c.loop-i.invariant.1,
          )
    ]
