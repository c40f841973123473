use Rattle.std.proofs.Common.{get_or, slice_index_or, pos, SFits, rules, length, ◌<◌, ◌≡◌, ◌+◌, ◌++◌, ◌∷◌, [], take, List, ℕ, sym, ap, subst, ◌∙◌}
use Rattle.std.specs.Int.{w128}
use Rattle.std.proofs.lemmas.Int.{to_z-of_z}
use Rattle.lattice_theory.specs.Affine.{Affine}
use Rattle.hull_growth.specs.steps.Rows.{AreCornerRows}
use Rattle.hull_growth.specs.steps.Growing.{kept_at}
use Rattle.hull_growth.proofs.SignTests.{at_least_zero, not_at_least_zero}
use Rattle.hull_growth.proofs.ValueLists.{value_of, function_at, stands_there}
use Rattle.hull_growth.proofs.Appending.{both_same}
use Rattle.hull_growth.proofs.NewFacetTurns.{kept_turn, left_turn}
use Rattle.hull_growth.proofs.steps.add_kept.Goals as goal
use Rattle.hull_growth.proofs.steps.add_kept.Goals.{then-value-ge0+in_ok-add, else-value-ge0}

pub loop-i-preserved : goal.loop-i-preserved
loop-i-preserved c =
    let fs = c.args.facets.now.functions.items in
    let i = c.loop-i.i in
    let p = c.args.p.now in
    let values = c.args.values.now in
    let v = slice_index_or values i (pos 0) in
    let fits : SFits w128 (slice_index_or values i (pos 0)) = search rules in
    let within : i < length fs = search rules in
    let IsTurned : List Affine → List ℕ → Type 0 = λ us bits.
    (us ≡ c.args.grown.now.functions.items ++ kept_at p (take (i + 1) fs)) × AreCornerRows (c.args.corners.now ++ (p ∷ [])) us bits in
    elim c.if-value-ge0.branch [
      | then-value-ge0+in_ok-add w ↦
          let f = w.copied.result in
          let stands : f ≡ slice_index_or fs i f =
          subst (λ (u : Affine). u ≡ get_or fs i u) (sym w.copied.ensures) w.index-then-value-ge0.ensures in
          both_same IsTurned _ _ _ _ (ap (λ g. g.functions.items) w.grown-is ∙ w.in_ok-add.ensures.functions)
          (ap (λ g. g.rows.items) w.grown-is ∙ w.in_ok-add.ensures.rows)
          (kept_turn c.args.corners.now fs c.args.facets.now.rows.items p c.requires.step c.args.grown.now.functions.items
          c.loop-i.grown.functions.items c.loop-i.grown.rows.items i w.index.result.now w.row_with-row.result
          f f v within stands stands w.index.ensures (value_of p fs values i f within stands c.requires.values)
          (at_least_zero v (rw (to_z-of_z w128 v fits) at w.if-value-ge0.true)) (simp to_z-of_z at w.row_with-row.ensures.set)
          (simp to_z-of_z at w.row_with-row.ensures.same) w.row_with-row.ensures.full c.loop-i.invariant)
      | else-value-ge0 w ↦
          let f = function_at fs i in
          let stands = stands_there fs i within in
          both_same IsTurned _ _ _ _ (ap (λ g. g.functions.items) w.grown-is) (ap (λ g. g.rows.items) w.grown-is)
          (left_turn c.args.corners.now fs c.args.facets.now.rows.items p c.requires.step c.args.grown.now.functions.items
          c.loop-i.grown.functions.items c.loop-i.grown.rows.items i f v within stands
          (value_of p fs values i f within stands c.requires.values)
          (not_at_least_zero v (rw (to_z-of_z w128 v fits) at w.if-value-ge0.false)) c.loop-i.invariant)
    ]
