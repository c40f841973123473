use Rattle.std.proofs.Common.{ap, ◌∙◌}
use Rattle.dual_pair.specs.Polytopes.{PolytopeState}
use Rattle.nef_parts.proofs.PairFacts.{lists_are, table_is}
use Rattle.nef_parts.proofs.masks.Masks.of.Goals as goal

pub table_of-requires : goal.table_of-requires
table_of-requires c =
    lists_are c.args.pair.now c.m-m.ensures.pair c.vertices.result.now c.vertices-2.result.now c.points.result.now
    (c.vertices.ensures.value ∙ ap (λ (p : PolytopeState). p.vertices) c.m-m.ensures.value)
    (c.vertices-2.ensures.value ∙ ap (λ (p : PolytopeState). p.vertices) c.n.ensures.value)
    (c.points.ensures.value ∙ ap (λ (p : PolytopeState). p.points) c.m-m.ensures.value)

pub invariant_of-result : goal.invariant_of-result
invariant_of-result c =
    table_is c.in_ok-table.table c.vertices.result.now c.vertices-2.result.now c.points.result.now c.in_ok-table.ensures.vertices
    c.in_ok-table.ensures.normals c.in_ok-table.ensures.points
    (lists_are c.args.pair.now c.m-m.ensures.pair c.vertices.result.now c.vertices-2.result.now c.points.result.now
    (c.vertices.ensures.value ∙ ap (λ (p : PolytopeState). p.vertices) c.m-m.ensures.value)
    (c.vertices-2.ensures.value ∙ ap (λ (p : PolytopeState). p.vertices) c.n.ensures.value)
    (c.points.ensures.value ∙ ap (λ (p : PolytopeState). p.points) c.m-m.ensures.value))
    c.in_ok-table.ensures.masks
