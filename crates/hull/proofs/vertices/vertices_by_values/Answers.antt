use Rattle.std.proofs.Common.{◌≤◌, ◌^◌, List, ℤ, ap, sym, subst, ◌∙◌, Contains}
use Rattle.std.proofs.lemmas.Bool.{true≢false}
use Rattle.std.proofs.lemmas.List.{take_all}
use Rattle.std.proofs.lemmas.List.Elements.{All-contains}
use Rattle.lattice_theory.specs.Size.{absolute_sum}
use Rattle.lattice_core.specs.Dimensions.{dimension_of}
use Rattle.hull_growth.proofs.Small.{points_bound}
use Rattle.hull_growth.proofs.Small.{facets_constants}
use Rattle.hull.proofs.VertexSearch.{vertex_alone, turn_added, turn_kept}
use Rattle.hull.specs.steps.Tight.{HasVertices}
use Rattle.hull.proofs.vertices.vertices_by_values.Goals as goal
use Rattle.hull.proofs.vertices.vertices_by_values.Goals.{After-v-item, then-is_vertex+in_ok-push, else-is_vertex}

-- this turn's point is one of the points
is_point : (c : After-v-item) → Contains c.args.points.now c.v-item.result
is_point c = (c.loop-v.v-index, c.loop-v-test.true, sym c.v-item.is)

pub is_vertex-requires-clause-small : goal.is_vertex-requires-clause-small
is_vertex-requires-clause-small c =
    points_bound (dimension_of c.args.points.now) c.args.points.now c.requires.points.sized.are_points.one_dimension
    c.requires.points.sized.within

pub is_vertex-requires-clause-constants : goal.is_vertex-requires-clause-constants
is_vertex-requires-clause-constants c =
    facets_constants (dimension_of c.args.points.now) c.args.points.now c.args.facets.now c.requires.points.sized.are_points.one_dimension
    c.requires.points.solid c.requires.points.sized.within c.requires.facets

pub is_vertex-requires-clause-small_v : goal.is_vertex-requires-clause-small_v
is_vertex-requires-clause-small_v c =
    All-contains (λ p. absolute_sum p ≤ 2 ^ 30) c.args.points.now c.v-item.result
    (points_bound (dimension_of c.args.points.now) c.args.points.now c.requires.points.sized.are_points.one_dimension
    c.requires.points.sized.within) (is_point c)

pub loop-v-preserved : goal.loop-v-preserved
loop-v-preserved c =
    let points = c.args.points.now in
    let n = dimension_of points in
    let i = c.loop-v.v-index in
    let v = c.v-item.result in
    let decides = vertex_alone n points c.args.facets.now v c.requires.points.sized.are_points.one_dimension c.requires.points.solid
    c.requires.facets (i, c.loop-v-test.true, sym c.v-item.is) in
    elim c.if-is_vertex.branch [
      | then-is_vertex+in_ok-push w ↦ turn_added n points points c.loop-v.vertices.items c.if-is_vertex.vertices.items i v w.copied.result
          c.loop-v-test.true c.v-item.is (decides.0 (c.is_vertex.ensures.0 w.if-is_vertex.true)) w.copied.ensures
          (ap (λ vs. vs.items) w.vertices-is ∙ w.in_ok-push.ensures.items) c.loop-v.invariant
      | else-is_vertex w ↦ turn_kept n points points c.loop-v.vertices.items c.if-is_vertex.vertices.items i v c.loop-v-test.true c.v-item.is
          (λ x. true≢false (sym (c.is_vertex.ensures.1 (decides.1 x)) ∙ w.if-is_vertex.false)) (ap (λ vs. vs.items) w.vertices-is)
          c.loop-v.invariant
    ]

pub returns : goal.returns
returns c =
    let n = dimension_of c.args.points.now in
    let found : List (List ℤ) → Type 0 = λ xs. HasVertices n c.args.points.now xs c.loop-v.vertices.items in
    subst found (take_all _ _ c.loop-v-test.false) c.loop-v.invariant
