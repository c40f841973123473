use Rattle.std.proofs.Common.{sym, subst, refl}
use Rattle.lattice_theory.specs.Affine.{Affine}
use Rattle.lattice_theory.specs.Combinations.{IsCombinationAt}
use Rattle.hull_growth.proofs.Small.{step_small, step_fixed}
use Rattle.hull_growth.proofs.Appending.{same_at, both_same}
use Rattle.hull_growth.specs.steps.Rows.{AreCornerRows}
use Rattle.hull_growth.proofs.RowBits.{rows_push}
use Rattle.hull_growth.proofs.NewFacetTurns.{new_row}
use Rattle.hull_growth.proofs.steps.add_combination.Goals as goal

pub combine-function-requires-clause-left : goal.combine-function-requires-clause-left
combine-function-requires-clause-left c = step_small c.args.corners.now c.args.facets.now.functions.items c.args.facets.now.rows.items c.args.p.now
    c.index-3.result.now c.requires.step (c.args.i, c.requires.first, sym c.index-3.ensures)

pub combine-function-requires-clause-right : goal.combine-function-requires-clause-right
combine-function-requires-clause-right c = step_small c.args.corners.now c.args.facets.now.functions.items c.args.facets.now.rows.items c.args.p.now
    c.index-4.result.now c.requires.step (c.args.j, c.requires.second, sym c.index-4.ensures)

pub combine-function-requires-clause-fixed : goal.combine-function-requires-clause-fixed
combine-function-requires-clause-fixed c = step_fixed c.args.corners.now c.args.facets.now.functions.items c.args.facets.now.rows.items c.args.p.now
    c.index-3.result.now c.index-4.result.now c.requires.step (c.args.i, c.requires.first, sym c.index-3.ensures)
    (c.args.j, c.requires.second, sym c.index-4.ensures) (c.requires.before c.index-3.result.now c.index-3.ensures)
    (c.requires.behind c.index-4.result.now c.index-4.ensures)
    (c.requires.ridge c.index-3.result.now c.index-4.result.now c.index-3.ensures c.index-4.ensures)

pub returns-clause-function : goal.returns-clause-function
returns-clause-function c = λ f g a b.
    let fs = c.args.facets.now.functions.items in
    record {
      function = c.combine-function.result;
      combination = subst (λ (u : Affine). IsCombinationAt u g c.args.p.now c.combine-function.result)
          (same_at fs c.args.i c.index-3.result.now f c.requires.first c.index-3.ensures a)
          (subst (λ (u : Affine). IsCombinationAt c.index-3.result.now u c.args.p.now c.combine-function.result)
          (same_at fs c.args.j c.index-4.result.now g c.requires.second c.index-4.ensures b) c.combine-function.ensures);
      whole = c.in_ok-add.ensures.functions;
    }

pub returns-clause-rows : goal.returns-clause-rows
returns-clause-rows c =
    both_same (AreCornerRows _) _ _ _ _ c.in_ok-add.ensures.functions c.in_ok-add.ensures.rows
    (rows_push _ c.args.grown.now.functions.items c.args.grown.now.rows.items c.combine-function.result c.row_with-row.result c.requires.rows
    (new_row c.args.corners.now c.args.facets.now.functions.items c.args.facets.now.rows.items c.args.p.now c.requires.step
    c.index-3.result.now c.index-4.result.now c.combine-function.result c.args.i c.args.j c.index.result.now c.index-2.result.now
    c.meet-both.result c.row_with-row.result c.requires.first c.requires.second c.index-3.ensures c.index-4.ensures c.index.ensures c.index-2.ensures
    c.combine-function.ensures c.meet-both.ensures (λ l. c.row_with-row.ensures.set refl l) c.row_with-row.ensures.full))
