use Rattle.std.proofs.Common.{refl, sym, subst}
use Rattle.std.proofs.lemmas.Result.{err_from_is_err_and}
use Rattle.palp_input.specs.Grammar.{ListedPoints}
use Rattle.lattice_core.specs.Stops.{Stops}
use Rattle.item_points.specs.Points.{IsInputRefusal, large_size}
use Rattle.item_points.proofs.SingleItems.{some_points, input_stops}
use Rattle.item_points.proofs.items.points_of_matrix.Goals as goal

pub returns-in_err-points-clause-points : goal.returns-in_err-points-clause-points
returns-in_err-points-clause-points c =
    let m = c.args.matrix.now in
    let item = ListedPoints m.lines m.columns m.entries.items in
    let e = err_from_is_err_and c.from_residual.result c.from_residual.ensures.1 in
    rw e.1 (input_stops item e.0 (subst (Stops (IsInputRefusal item)) (sym e.2) c.in_err-points.ensures))

pub size_above_limit-requires : goal.size_above_limit-requires
size_above_limit-requires c =
    let m = c.args.matrix.now in
    rw c.deref.ensures.value (some_points (ListedPoints m.lines m.columns m.entries.items) c.in_ok-points.points.items
    c.in_ok-points.ensures).are_points

pub returns-in-Some-clause-points : goal.returns-in-Some-clause-points
returns-in-Some-clause-points c =
    large_size (record {
      points = c.in_ok-points.points.items;
      are_points = c.in_ok-points.ensures;
      large = rw c.deref.ensures.value at c.in-Some.ensures.large;
      is_told = rw c.deref.ensures.value at c.in-Some.ensures.told;
    })

pub returns-clause-premises : goal.returns-clause-premises
returns-clause-premises c =
    let m = c.args.matrix.now in
    let some = some_points (ListedPoints m.lines m.columns m.entries.items) c.in_ok-points.points.items c.in_ok-points.ensures in
    record {
      sized = record { are_points = some.are_points; within = rw c.deref.ensures.value at c.in_default.ensures.within refl };
      least = some.least;
      most = some.most;
    }
