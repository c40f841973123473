use Rattle.std.specs.Prelude.{ℤ, Bool}
use Rattle.std.proofs.Common.{◌≡◌, ℕ, List, ◌∙◌, sym, subst}
use Rattle.std.proofs.lemmas.Result.{err_from_is_err_and}
use Rattle.lattice_core.specs.Stops.{Stops}
use Rattle.face_theory.specs.Pairings.{valued}
use Rattle.palp_input.specs.Grammar.{listed}
use Rattle.dual_pair.specs.Pairs.{HasNoDual}
use Rattle.palp_engine.specs.RunSteps.{IsKept}
use Rattle.palp_engine.specs.FaceSteps.{IsFaceStop}
use Rattle.palp_engine.specs.PieceSteps.{list_points, lists_of, IsPairStop, IsPairWritten}
use Rattle.palp_engine.specs.declared.polytopes.Polytope.{Polytope}
use Rattle.palp_engine.proofs.CountedPoints.{line_points_all}
use Rattle.palp_engine.proofs.ItemPieces.{can_have_faces, asked_by, reflexive_by, none_by, alone_stop, lists_polytope, lists_reflexive, dual_stop, pair_stop, pair_piece, answered, printed_where}
use Rattle.palp_engine.proofs.pieces.write_piece.Goals as goal

-- what was kept, by the answer of the test
kept_as : (points : List (List ℤ)) (kept : Polytope) (asks listed : Bool) → asks ≡ listed → IsKept points asks kept → IsKept points listed kept
kept_as points kept asks listed e k = subst (λ (b : Bool). IsKept points b kept) e k

pub polytope_of-requires-clause-complete : goal.polytope_of-requires-clause-complete
polytope_of-requires-clause-complete c = λ t. line_points_all (listed c.args.item.now) c.in_ok-points.points.items c.requires
    (c.is_weight_line.ensures.0 t) c.in_ok-points.ensures.points

pub pair_of-requires-clause-polytope : goal.pair_of-requires-clause-polytope
pair_of-requires-clause-polytope c =
    let kept = c.in_ok-polytope.polytope in
    let k = kept_as c.in_ok-points.points.items kept c.lists_points-listed.result (list_points c.args.flags.now) c.lists_points-listed.ensures c.in_ok-polytope.ensures in
    let e = sym c.shows_pair.ensures ∙ c.if-shows_pair.true in
    lists_polytope c.args.flags.now (listed c.args.item.now) c.in_ok-points.points.items kept c.in_ok-points.ensures.points k
    (asked_by c.args.flags.now (listed c.args.item.now) c.in_ok-points.points.items kept c.in_ok-points.ensures.points k
    c.all_have_ones-reflexive.result c.deref.result.now c.all_have_ones-reflexive.ensures c.deref.ensures.value e)

pub pair_of-requires-clause-reflexive : goal.pair_of-requires-clause-reflexive
pair_of-requires-clause-reflexive c =
    let kept = c.in_ok-polytope.polytope in
    let k = kept_as c.in_ok-points.points.items kept c.lists_points-listed.result (list_points c.args.flags.now) c.lists_points-listed.ensures c.in_ok-polytope.ensures in
    let e = sym c.shows_pair.ensures ∙ c.if-shows_pair.true in
    lists_reflexive c.args.flags.now (listed c.args.item.now) c.in_ok-points.points.items kept c.in_ok-points.ensures.points k
    (asked_by c.args.flags.now (listed c.args.item.now) c.in_ok-points.points.items kept c.in_ok-points.ensures.points k
    c.all_have_ones-reflexive.result c.deref.result.now c.all_have_ones-reflexive.ensures c.deref.ensures.value e)
    (reflexive_by c.args.flags.now (listed c.args.item.now) c.in_ok-points.points.items kept c.in_ok-points.ensures.points k
    c.all_have_ones-reflexive.result c.deref.result.now c.all_have_ones-reflexive.ensures c.deref.ensures.value e)

pub returns-in_err-pair : goal.returns-in_err-pair
returns-in_err-pair c =
    let kept = c.in_ok-polytope.polytope in
    let k = kept_as c.in_ok-points.points.items kept c.lists_points-listed.result (list_points c.args.flags.now) c.lists_points-listed.ensures c.in_ok-polytope.ensures in
    let e = sym c.shows_pair.ensures ∙ c.if-shows_pair.true in
    let f = err_from_is_err_and c.from_residual-in_err-pair.result c.from_residual-in_err-pair.ensures.1 in
    rw f.1 (dual_stop c.args.flags.now (listed c.args.item.now) c.in_ok-points.points.items kept c.in_ok-points.ensures.points k
    (asked_by c.args.flags.now (listed c.args.item.now) c.in_ok-points.points.items kept c.in_ok-points.ensures.points k
    c.all_have_ones-reflexive.result c.deref.result.now c.all_have_ones-reflexive.ensures c.deref.ensures.value e) f.0
    (subst (Stops (HasNoDual (lists_of kept))) (sym f.2) c.in_err-pair.ensures))

pub returns-in_err-write_pair : goal.returns-in_err-write_pair
returns-in_err-write_pair c =
    let kept = c.in_ok-polytope.polytope in
    let k = kept_as c.in_ok-points.points.items kept c.lists_points-listed.result (list_points c.args.flags.now) c.lists_points-listed.ensures c.in_ok-polytope.ensures in
    let e = sym c.shows_pair.ensures ∙ c.if-shows_pair.true in
    let f = err_from_is_err_and c.from_residual-in_err-write_pair.result c.from_residual-in_err-write_pair.ensures.1 in
    rw f.1 (pair_stop c.args.flags.now (listed c.args.item.now) c.in_ok-points.points.items kept c.in_ok-points.ensures.points k
    (asked_by c.args.flags.now (listed c.args.item.now) c.in_ok-points.points.items kept c.in_ok-points.ensures.points k
    c.all_have_ones-reflexive.result c.deref.result.now c.all_have_ones-reflexive.ensures c.deref.ensures.value e)
    c.in_ok-pair.pair c.in_ok-pair.ensures f.0 (subst (Stops (IsPairStop c.args.flags.now c.in_ok-pair.pair)) (sym f.2) c.in_err-write_pair.ensures))

pub returns-then-shows_pair : goal.returns-then-shows_pair
returns-then-shows_pair c =
    let kept = c.in_ok-polytope.polytope in
    let k = kept_as c.in_ok-points.points.items kept c.lists_points-listed.result (list_points c.args.flags.now) c.lists_points-listed.ensures c.in_ok-polytope.ensures in
    let e = sym c.shows_pair.ensures ∙ c.if-shows_pair.true in
    pair_piece c.args.flags.now (listed c.args.item.now) c.in_ok-points.points.items kept c.in_ok-points.ensures.points k
    (asked_by c.args.flags.now (listed c.args.item.now) c.in_ok-points.points.items kept c.in_ok-points.ensures.points k
    c.all_have_ones-reflexive.result c.deref.result.now c.all_have_ones-reflexive.ensures c.deref.ensures.value e)
    c.in_ok-pair.pair c.in_ok-pair.ensures c.write_pair.new.page
    (subst (λ (page : List ℕ). IsPairWritten c.args.flags.now (listed c.args.item.now) c.in_ok-pair.pair page c.write_pair.new.page) c.clear.ensures
    c.in_ok-write_pair.ensures)

pub write_alone-requires-clause-printed : goal.write_alone-requires-clause-printed
write_alone-requires-clause-printed c =
    let kept = c.in_ok-polytope.polytope in
    let k = kept_as c.in_ok-points.points.items kept c.lists_points-listed.result (list_points c.args.flags.now) c.lists_points-listed.ensures c.in_ok-polytope.ensures in
    printed_where c.args.flags.now kept k.printed

pub write_alone-requires-clause-faces : goal.write_alone-requires-clause-faces
write_alone-requires-clause-faces c =
    let kept = c.in_ok-polytope.polytope in
    let k = kept_as c.in_ok-points.points.items kept c.lists_points-listed.result (list_points c.args.flags.now) c.lists_points-listed.ensures c.in_ok-polytope.ensures in
    can_have_faces c.args.flags.now (listed c.args.item.now) c.in_ok-points.points.items kept c.in_ok-points.ensures.points k

pub returns-in_err-write_alone : goal.returns-in_err-write_alone
returns-in_err-write_alone c =
    let kept = c.in_ok-polytope.polytope in
    let k = kept_as c.in_ok-points.points.items kept c.lists_points-listed.result (list_points c.args.flags.now) c.lists_points-listed.ensures c.in_ok-polytope.ensures in
    let e = sym c.shows_pair.ensures ∙ c.if-shows_pair.false in
    let f = err_from_is_err_and c.from_residual-in_err-write_alone.result c.from_residual-in_err-write_alone.ensures.1 in
    rw f.1 (alone_stop c.args.flags.now (listed c.args.item.now) c.in_ok-points.points.items kept c.in_ok-points.ensures.points k
    (none_by c.args.flags.now (listed c.args.item.now) c.in_ok-points.points.items kept c.in_ok-points.ensures.points k
    c.all_have_ones-reflexive.result c.deref.result.now c.all_have_ones-reflexive.ensures c.deref.ensures.value e) f.0
    (subst (Stops (IsFaceStop c.args.flags.now.incidence (valued kept.vertices.items kept.facets.items))) (sym f.2)
    c.in_err-write_alone.ensures))

pub returns : goal.returns
returns c =
    let kept = c.in_ok-polytope.polytope in
    let k = kept_as c.in_ok-points.points.items kept c.lists_points-listed.result (list_points c.args.flags.now) c.lists_points-listed.ensures c.in_ok-polytope.ensures in
    let e = sym c.shows_pair.ensures ∙ c.if-shows_pair.false in
    answered c.args.flags.now (listed c.args.item.now) c.in_ok-points.points.items kept c.in_ok-points.ensures.points k
    c.all_have_ones-reflexive.result c.deref.result.now c.all_have_ones-reflexive.ensures c.deref.ensures.value e
    c.clear.new.self c.write_alone.new.page c.clear.ensures c.in_ok-write_alone.ensures c.is_wanted.result c.is_wanted.ensures
