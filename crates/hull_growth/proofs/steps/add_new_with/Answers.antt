use Rattle.std.proofs.Common.{SFits, rules, length, ◌<◌, ◌≡◌, ◌+◌, ◌++◌, ◌∷◌, [], ◌<ℤ◌, pos, slice_index_or, List, ℕ, sym, ap, subst, ◌∙◌}
use Rattle.std.proofs.lemmas.Bool.{true≢false}
use Rattle.std.specs.Int.{w128}
use Rattle.std.proofs.lemmas.Int.{to_z-of_z}
use Rattle.lattice_theory.specs.Affine.{Affine, value}
use Rattle.hull_growth.specs.steps.Rows.{AreCornerRows}
use Rattle.hull_growth.proofs.SignTests.{below_zero, not_below_zero}
use Rattle.hull_growth.proofs.ValueLists.{value_of, function_at, stands_there}
use Rattle.hull_growth.proofs.Appending.{both_same}
use Rattle.hull_growth.proofs.NewFacetTurns.{HasNewWith, with_none, with_added, with_same, no_negative}
use Rattle.hull_growth.proofs.steps.add_new_with.Goals as goal
use Rattle.hull_growth.proofs.steps.add_new_with.Goals.{then-values-j-lt0+then-is_ridge+in_ok-add_combination, else-values-j-lt0}
use Rattle.hull_growth.proofs.steps.add_new_with.Goals.{else-values-j-lt0-via-then-values-j-lt0+else-is_ridge, else-values-j-lt0-via-else-values-j-lt0}

pub loop-j-init : goal.loop-j-init
loop-j-init c = (
  λ f e. with_none c.args.corners.now c.args.p.now f c.args.facets.now.functions.items c.args.grown.now.functions.items,
  c.requires.rows,
)

pub add_combination-requires-clause-ridge : goal.add_combination-requires-clause-ridge
add_combination-requires-clause-ridge c = λ f g a b. (c.is_ridge.ensures _ f g c.requires.step.held a b).0 c.if-is_ridge.true

pub loop-j-preserved : goal.loop-j-preserved
loop-j-preserved c =
    let fs = c.args.facets.now.functions.items in
    let rows = c.args.facets.now.rows.items in
    let corners = c.args.corners.now in
    let p = c.args.p.now in
    let s = c.requires.step in
    let j = c.loop-j.j in
    let values = c.args.values.now in
    let v = slice_index_or values j (pos 0) in
    let fits : SFits w128 (slice_index_or values j (pos 0)) = search rules in
    let within : j < length fs = search rules in
    let g = function_at fs j in
    let stands = stands_there fs j within in
    let is = value_of p fs values j g within stands c.requires.values in
    let IsTurned : List Affine → List ℕ → Type 0 = λ us bits. ((f : Affine) → f ≡ slice_index_or fs c.args.i f
    → HasNewWith corners p f fs (j + 1) c.args.grown.now.functions.items us) × AreCornerRows (corners ++ (p ∷ [])) us bits in
    elim c.if-values-j-lt0.branch [
      | then-values-j-lt0+then-is_ridge+in_ok-add_combination w ↦
          both_same IsTurned _ _ _ _ (ap (λ u. u.functions.items) w.grown-is) (ap (λ u. u.rows.items) w.grown-is) (
            λ f e. with_added corners fs rows p s f g j c.args.grown.now.functions.items c.loop-j.grown.functions.items
                w.add_combination.new.grown.functions.items within stands (c.args.i, c.requires.first, sym e)
                (c.requires.before f e) (subst (λ z. z <ℤ pos 0) is (below_zero v (rw (to_z-of_z w128 v fits) at w.if-values-j-lt0.true)))
                ((w.is_ridge.ensures _ f g s.held e stands).0 w.if-is_ridge.true)
                (w.in_ok-add_combination.ensures.function f g e stands) (c.loop-j.invariant.0 f e),
            w.in_ok-add_combination.ensures.rows,
          )
      | else-values-j-lt0 w ↦
          both_same IsTurned _ _ _ _ (ap (λ u. u.functions.items) w.grown-is) (ap (λ u. u.rows.items) w.grown-is) (
            λ f e. with_same corners fs rows p s f g j c.args.grown.now.functions.items c.loop-j.grown.functions.items
                within stands
                (elim w.else-values-j-lt0.branch [
                  | else-values-j-lt0-via-then-values-j-lt0+else-is_ridge w' ↦
                      λ h new. true≢false (sym ((w'.is_ridge.ensures _ f g s.held e stands).1 new.ridge) ∙ w'.if-is_ridge.false)
                  | else-values-j-lt0-via-else-values-j-lt0 w' ↦ λ h new. no_negative v (value g p) is
                      (not_below_zero v (rw (to_z-of_z w128 v fits) at w'.if-values-j-lt0.false)) new.behind
                ]) (c.loop-j.invariant.0 f e),
            c.loop-j.invariant.1,
          )
    ]
