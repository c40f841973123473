use Rattle.std.proofs.Common.{◌≡◌, List, ℤ, sym, ap, ◌∙◌, subst}
use Rattle.std.proofs.lemmas.Bool.{true≢false}
use Rattle.lattice_core.specs.Dimensions.{dimension_of}
use Rattle.lattice_core.proofs.Dimension.{dimension_first}
use Rattle.hull.specs.declared.candidates.Candidate.{Candidate}
use Rattle.hull.specs.steps.Tight.{HasVertices}
use Rattle.hull.specs.steps.Candidates.{IsLone}
use Rattle.hull.proofs.VertexSearch.{facets_fit, turn_added, turn_kept}
use Rattle.hull.proofs.CandidatePoints.{points_of, point_at, points_all, lone_is_vertex, candidate_vertices}
use Rattle.hull.proofs.vertices.vertices_by_rows.Goals as goal
use Rattle.hull.proofs.vertices.vertices_by_rows.Goals.{then-is_lone+in_ok-push, else-is_lone}

pub candidates_of-requires-clause-fits : goal.candidates_of-requires-clause-fits
candidates_of-requires-clause-fits c =
    let points = c.args.points.now in
    let n_is : c.dim-n.result ≡ dimension_of points = c.dim-n.ensures.value
    ∙ dimension_first points c.index-points-0.result c.requires.points.sized.are_points.some c.index-points-0.is in
    facets_fit (dimension_of points) points c.args.facets.now c.width_of-width.result (rw n_is at c.dim-n.ensures.least)
    c.requires.points.sized.are_points.one_dimension c.requires.points.solid c.requires.facets
    (rw (c.size_of.ensures, n_is) at c.width_of-width.ensures.serves)

pub loop-c-preserved : goal.loop-c-preserved
loop-c-preserved c =
    let points = c.args.points.now in
    let n = dimension_of points in
    let items = c.deref-c-items.result.now in
    let found = c.c-item.result in
    let at = point_at items c.loop-c.c-index found c.loop-c-test.true c.c-item.is in
    let decides = lone_is_vertex n points c.args.facets.now items found c.requires.points.sized.are_points.one_dimension
    c.requires.points.solid c.requires.facets (rw c.deref-c-items.ensures.value c.in_ok-candidates.ensures)
    (c.loop-c.c-index, c.loop-c-test.true, sym c.c-item.is) in
    let same : c.deref.result.now ≡ items = c.deref.ensures.value ∙ sym c.deref-c-items.ensures.value in
    elim c.if-is_lone.branch [
      | then-is_lone+in_ok-push w ↦ turn_added n points (points_of items) c.loop-c.vertices.items c.if-is_lone.vertices.items c.loop-c.c-index
          found.point w.copied.result at.0 at.1
          (decides.0 (subst (λ (cs : List Candidate). IsLone cs found) same (c.is_lone.ensures.0 w.if-is_lone.true))) w.copied.ensures
          (ap (λ vs. vs.items) w.vertices-is ∙ w.in_ok-push.ensures.items) c.loop-c.invariant
      | else-is_lone w ↦ turn_kept n points (points_of items) c.loop-c.vertices.items c.if-is_lone.vertices.items c.loop-c.c-index
          found.point at.0 at.1
          (λ x. true≢false (sym (c.is_lone.ensures.1 (subst (λ (cs : List Candidate). IsLone cs found) (sym same) (decides.1 x))) ∙ w.if-is_lone.false))
          (ap (λ vs. vs.items) w.vertices-is) c.loop-c.invariant
    ]

pub returns : goal.returns
returns c =
    let points = c.args.points.now in
    let n = dimension_of points in
    let items = c.deref-c-items.result.now in
    candidate_vertices n points c.loop-c.vertices.items c.args.facets.now items c.requires.points.sized.are_points.one_dimension
    c.requires.points.solid c.requires.facets (rw c.deref-c-items.ensures.value c.in_ok-candidates.ensures)
    (subst (λ (xs : List (List ℤ)). HasVertices n points xs c.loop-c.vertices.items) (points_all items c.loop-c.c-index c.loop-c-test.false)
    c.loop-c.invariant)
