use Rattle.std.specs.Prelude.{IsTrue}
use Rattle.ridge_theory.specs.Ridges.{IsRidge}
use Rattle.hull_growth.specs.steps.Rows.{NoThirdRow, NoThirdFunction}
use Rattle.hull_growth.proofs.Small.{held_constants, held_corners}
use Rattle.hull_growth.proofs.RidgeTests.{ridge_by_functions, ridge_by_rows, decided}
use Rattle.hull_growth.proofs.ridges.is_ridge.Goals as goal

pub is_alone_by_values-requires-clause-small : goal.is_alone_by_values-requires-clause-small
is_alone_by_values-requires-clause-small c =
    held_corners c.requires.held.0 c.args.corners.now c.args.facets.now.functions.items c.args.facets.now.rows.items c.requires.held.1

pub is_alone_by_values-requires-clause-constants : goal.is_alone_by_values-requires-clause-constants
is_alone_by_values-requires-clause-constants c = rw c.deref.ensures.value
    (held_constants c.requires.held.0 c.args.corners.now c.args.facets.now.functions.items c.args.facets.now.rows.items c.requires.held.1)

pub is_alone_by_values-requires-clause-rows : goal.is_alone_by_values-requires-clause-rows
is_alone_by_values-requires-clause-rows c = rw (c.deref.ensures.value, c.deref-then-corners-gt-MOST_INDICES.ensures.value) c.requires.held.1.rows

pub returns-then-corners-gt-MOST_INDICES : goal.returns-then-corners-gt-MOST_INDICES
returns-then-corners-gt-MOST_INDICES c = λ n f g h a b. decided (NoThirdFunction c.args.corners.now c.args.facets.now.functions.items c.args.i c.args.j)
    (IsRidge n c.args.corners.now f g) (IsTrue c.is_alone_by_values.result)
    (ridge_by_functions n c.args.corners.now c.args.facets.now.functions.items c.args.facets.now.rows.items c.args.i c.args.j f g h
    c.requires.first c.requires.second a b) (rw c.deref.ensures.value at c.is_alone_by_values.ensures)

pub returns : goal.returns
returns c = λ n f g h a b. decided (NoThirdRow c.args.facets.now.rows.items c.args.i c.args.j)
    (IsRidge n c.args.corners.now f g) (IsTrue c.is_alone_by_rows.result)
    (ridge_by_rows n c.args.corners.now c.args.facets.now.functions.items c.args.facets.now.rows.items c.args.i c.args.j f g
    c.if-corners-gt-MOST_INDICES.false h
    c.requires.first c.requires.second a b) (rw c.deref-2.ensures.value at c.is_alone_by_rows.ensures)
