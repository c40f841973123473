use Rattle.std.proofs.Common.{◌∙◌, ap, sym, subst}
use Rattle.std.proofs.lemmas.Result.{err_from_is_err_and}
use Rattle.lattice_core.specs.Dimensions.{dimension_of}
use Rattle.lattice_core.specs.Stops.{Stops}
use Rattle.face_theory.specs.Pairings.{valued}
use Rattle.palp_input.specs.Grammar.{listed}
use Rattle.dual_pair.specs.Polytopes.{PolytopeState}
use Rattle.palp_engine.specs.FaceSteps.{IsFaceStop}
use Rattle.palp_engine.proofs.ItemPieces.{pair_can_have_faces, pair_points, pair_dual_points, pair_paired, pair_fault, found_for_numbers, pair_written}
use Rattle.palp_engine.proofs.pieces.write_pair.Goals as goal

pub find_where-requires : goal.find_where-requires
find_where-requires c = pair_can_have_faces c.args.pair.now c.m-m.ensures.pair c.facets.result.now c.vertices.result.now
    (c.facets.ensures.value ∙ ap (λ (p : PolytopeState). p.facets) c.m-m.ensures.value)
    (c.vertices.ensures.value ∙ ap (λ (p : PolytopeState). p.vertices) c.m-m.ensures.value)

pub returns-in_err-find_where : goal.returns-in_err-find_where
returns-in_err-find_where c =
    let e = err_from_is_err_and c.from_residual.result c.from_residual.ensures.1 in
    rw e.1 (pair_fault c.args.flags.now (listed c.args.item.now) c.args.pair.now c.dim.result
    (c.dim.ensures.value ∙ ap (λ (p : PolytopeState). dimension_of p.vertices) c.m-m.ensures.value)
    c.asks_numbers-numbered.result c.asks_faces-asked.result c.asks_numbers-numbered.ensures c.asks_faces-asked.ensures
    c.vertices.result.now c.facets.result.now
    (c.vertices.ensures.value ∙ ap (λ (p : PolytopeState). p.vertices) c.m-m.ensures.value)
    (c.facets.ensures.value ∙ ap (λ (p : PolytopeState). p.facets) c.m-m.ensures.value) e.0
    (subst (Stops (IsFaceStop c.asks_faces-asked.result (valued c.vertices.result.now c.facets.result.now))) (sym e.2)
    c.in_err-find_where.ensures))

pub numbers_where-numbers-requires : goal.numbers_where-numbers-requires
numbers_where-numbers-requires c = found_for_numbers c.args.flags.now (listed c.args.item.now) c.args.pair.now c.dim.result
    (c.dim.ensures.value ∙ ap (λ (p : PolytopeState). dimension_of p.vertices) c.m-m.ensures.value)
    c.asks_numbers-numbered.result c.asks_faces-asked.result c.asks_numbers-numbered.ensures c.asks_faces-asked.ensures
    c.vertices.result.now c.facets.result.now
    (c.vertices.ensures.value ∙ ap (λ (p : PolytopeState). p.vertices) c.m-m.ensures.value)
    (c.facets.ensures.value ∙ ap (λ (p : PolytopeState). p.facets) c.m-m.ensures.value) c.find_where.new.self c.in_ok-find_where.ensures

pub put_pair-requires-clause-points : goal.put_pair-requires-clause-points
put_pair-requires-clause-points c = pair_points c.args.pair.now c.m-m.ensures.pair

pub put_pair-requires-clause-dual_points : goal.put_pair-requires-clause-dual_points
put_pair-requires-clause-dual_points c = pair_dual_points c.args.pair.now c.m-m.ensures.pair

pub put_pair-requires-clause-paired : goal.put_pair-requires-clause-paired
put_pair-requires-clause-paired c = pair_paired c.args.pair.now c.m-m.ensures.pair

pub returns : goal.returns
returns c = pair_written c.args.flags.now (listed c.args.item.now) c.args.pair.now c.dim.result
    (c.dim.ensures.value ∙ ap (λ (p : PolytopeState). dimension_of p.vertices) c.m-m.ensures.value)
    c.asks_numbers-numbered.result c.asks_faces-asked.result c.asks_numbers-numbered.ensures c.asks_faces-asked.ensures
    c.vertices.result.now c.facets.result.now
    (c.vertices.ensures.value ∙ ap (λ (p : PolytopeState). p.vertices) c.m-m.ensures.value)
    (c.facets.ensures.value ∙ ap (λ (p : PolytopeState). p.facets) c.m-m.ensures.value) c.find_where.new.self c.in_ok-find_where.ensures
    c.args.page.now c.put_pair.new.page c.numbers_where-numbers.result c.counts-counts.result c.dim-2.result
    (c.dim-2.ensures.value ∙ ap (λ (p : PolytopeState). dimension_of p.vertices) c.m-m.ensures.value) c.dim-2.ensures.most
    c.numbers_where-numbers.ensures c.counts-counts.ensures c.in_ok-put_pair.ensures
