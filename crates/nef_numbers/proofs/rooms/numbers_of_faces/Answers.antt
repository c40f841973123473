use Rattle.std.proofs.Common.{sym, subst}
use Rattle.std.proofs.lemmas.Result.{err_from_is_err_and}
use Rattle.lattice_core.specs.Stops.{Stops}
use Rattle.cone_counts.specs.Limits.{IsCountRefusal}
use Rattle.nef_numbers.specs.RoomSteps.{IsLargeRefusal}
use Rattle.nef_numbers.proofs.RoomFacts.{counts_stop, coefficient_stop, small_ranks, counts_of_table, some_parts}
use Rattle.nef_numbers.proofs.rooms.numbers_of_faces.Goals as goal

pub returns-in_err-counts : goal.returns-in_err-counts
returns-in_err-counts c =
    let e = err_from_is_err_and c.from_residual.result c.from_residual.ensures.1 in
    rw e.1 (counts_stop c.args.cone.now c.args.table.now c.requires.faces e.0
    (subst (Stops (IsCountRefusal c.args.cone.now)) (sym e.2) c.in_err-counts.ensures))

pub coefficients_of-requires-clause-ranks : goal.coefficients_of-requires-clause-ranks
coefficients_of-requires-clause-ranks c = small_ranks c.args.pair.now c.requires.pair c.args.cone.now c.requires.cone c.args.parts c.requires.parts
    c.requires.within.within c.args.table.now c.requires.faces

pub returns-in_err-values : goal.returns-in_err-values
returns-in_err-values c =
    let e = err_from_is_err_and c.from_residual-in_err-values.result c.from_residual-in_err-values.ensures.1 in
    rw e.1 (coefficient_stop c.args.cone.now c.args.table.now c.in_ok-counts.counts c.requires.faces c.in_ok-counts.ensures e.0
    (subst (Stops (IsLargeRefusal c.args.table.now)) (sym e.2) c.in_err-values.ensures))

pub e_poly-requires-clause-counts : goal.e_poly-requires-clause-counts
e_poly-requires-clause-counts c = counts_of_table c.args.pair.now c.requires.pair c.args.cone.now c.requires.cone c.args.parts c.requires.parts
    c.requires.within.within c.args.table.now c.in_ok-counts.counts c.requires.faces c.in_ok-counts.ensures

pub e_poly-requires-clause-codim : goal.e_poly-requires-clause-codim
e_poly-requires-clause-codim c = some_parts c.args.pair.now c.requires.pair c.args.cone.now c.requires.cone c.args.parts c.requires.parts
    c.requires.within.within
