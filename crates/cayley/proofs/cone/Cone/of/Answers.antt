use Rattle.std.proofs.Common.{◌≡◌, ◌/◌, ◌<◌, ◌≤◌, ℕ, List, ℤ, length, sym, ap, ◌∙◌, subst, rules}
use Rattle.std.specs.List.{All}
use Rattle.lattice_theory.specs.Vector.{HaveDimension}
use Rattle.lattice_theory.specs.Affine.{Affine}
use Rattle.lattice_core.specs.Dimensions.{dimension_of}
use Rattle.dual_pair.specs.Polytopes.{PolytopeState}
use Rattle.cayley.specs.ConeSteps.{AreSmall, table_of}
use Rattle.cayley.proofs.PairFacts.{points_dimension}
use Rattle.cayley.proofs.ConeMade.{some_parts, all_within, parts_from, made_from, made_small, made_lists, made_cone}
use Rattle.cayley.proofs.cone.Cone.of.Goals as goal

pub members_of-requires-clause-parts : goal.members_of-requires-clause-parts
members_of-requires-clause-parts c =
    let count : c.len.result ≡ length c.args.partition.now.points.items = search rules in
    subst (λ (k : ℕ). 1 ≤ k)
    (sym (parts_from c.args.pair.now c.args.partition.now.part_of.items c.args.partition.now.points.items c.m.ensures.pair c.requires c.len.result
    c.vertices.result.now count (c.vertices.ensures.value ∙ ap (λ (p : PolytopeState). p.vertices) c.m.ensures.value)))
    (some_parts c.args.pair.now c.m.ensures.pair c.args.partition.now.part_of.items c.args.partition.now.points.items c.requires)

pub members_of-requires-clause-places : goal.members_of-requires-clause-places
members_of-requires-clause-places c =
    subst (λ (ps : List (List ℤ)). All (λ place. place < length ps) c.deref.result.now)
    (sym (c.points.ensures.value ∙ ap (λ (p : PolytopeState). p.points) c.m-2.ensures.value))
    (subst (All (λ place. place < length c.args.pair.now.m.points)) (sym c.deref.ensures.value)
    (all_within c.args.pair.now c.m.ensures.pair c.args.partition.now.part_of.items c.args.partition.now.points.items c.requires))

pub members_of-requires-clause-dimension : goal.members_of-requires-clause-dimension
members_of-requires-clause-dimension c = (
  dimension_of c.args.pair.now.m.vertices,
  subst (HaveDimension (dimension_of c.args.pair.now.m.vertices))
      (sym (c.points.ensures.value ∙ ap (λ (p : PolytopeState). p.points) c.m-2.ensures.value))
      (points_dimension c.args.pair.now c.m.ensures.pair),
)

pub tight_table-requires : goal.tight_table-requires
tight_table-requires c =
    let count : c.len.result ≡ length c.args.partition.now.points.items = search rules in
    let ps = c.points.ensures.value ∙ ap (λ (p : PolytopeState). p.points) c.m-2.ensures.value in
    let ns = c.vertices-2.ensures.value ∙ ap (λ (p : PolytopeState). p.vertices) c.n.ensures.value in
    let r = parts_from c.args.pair.now c.args.partition.now.part_of.items c.args.partition.now.points.items c.m.ensures.pair c.requires c.len.result
    c.vertices.result.now count (c.vertices.ensures.value ∙ ap (λ (p : PolytopeState). p.vertices) c.m.ensures.value) in
    subst (λ (fs : List Affine). All (λ m. AreSmall (length m.normal) fs) c.deref-3.result.now) (sym c.deref-4.ensures.value)
    (subst (λ (ms : List Affine). All (λ m. AreSmall (length m.normal) c.in_ok-functions.functions.items) ms) (sym c.deref-3.ensures.value)
    (made_small c.args.pair.now c.args.partition.now.part_of.items c.args.partition.now.points.items (c.len.result / length c.vertices.result.now)
    c.in_ok-members.members.items c.in_ok-functions.functions.items
    (made_from c.args.pair.now c.args.partition.now.part_of.items c.args.partition.now.points.items c.m.ensures.pair c.requires
    (c.len.result / length c.vertices.result.now) c.points.result.now c.vertices-2.result.now c.deref-2.result.now c.deref.result.now
    c.in_ok-members.members.items c.in_ok-functions.functions.items r ps ns c.deref-2.ensures.value c.deref.ensures.value
    c.in_ok-members.ensures.members c.in_ok-functions.ensures.functions)))

pub invariant_of-result : goal.invariant_of-result
invariant_of-result c =
    let count : c.len.result ≡ length c.args.partition.now.points.items = search rules in
    let ps = c.points.ensures.value ∙ ap (λ (p : PolytopeState). p.points) c.m-2.ensures.value in
    let ns = c.vertices-2.ensures.value ∙ ap (λ (p : PolytopeState). p.vertices) c.n.ensures.value in
    let r = parts_from c.args.pair.now c.args.partition.now.part_of.items c.args.partition.now.points.items c.m.ensures.pair c.requires c.len.result
    c.vertices.result.now count (c.vertices.ensures.value ∙ ap (λ (p : PolytopeState). p.vertices) c.m.ensures.value) in
    made_lists c.args.pair.now c.args.partition.now.part_of.items c.args.partition.now.points.items (c.len.result / length c.vertices.result.now)
    c.in_ok-members.members.items c.in_ok-functions.functions.items
    (made_from c.args.pair.now c.args.partition.now.part_of.items c.args.partition.now.points.items c.m.ensures.pair c.requires
    (c.len.result / length c.vertices.result.now) c.points.result.now c.vertices-2.result.now c.deref-2.result.now c.deref.result.now
    c.in_ok-members.members.items c.in_ok-functions.functions.items r ps ns c.deref-2.ensures.value c.deref.ensures.value
    c.in_ok-members.ensures.members c.in_ok-functions.ensures.functions)
    c.dim.result (c.dim.ensures.value ∙ ap (λ (p : PolytopeState). dimension_of p.vertices) c.m-3.ensures.value)
    c.in_ok-tight.tight.items
    (c.in_ok-tight.ensures ∙ ap (λ (fs : List Affine). table_of fs c.deref-3.result.now) c.deref-4.ensures.value
    ∙ ap (table_of c.in_ok-functions.functions.items) c.deref-3.ensures.value)

pub returns : goal.returns
returns c =
    let count : c.len.result ≡ length c.args.partition.now.points.items = search rules in
    let ps = c.points.ensures.value ∙ ap (λ (p : PolytopeState). p.points) c.m-2.ensures.value in
    let ns = c.vertices-2.ensures.value ∙ ap (λ (p : PolytopeState). p.vertices) c.n.ensures.value in
    let r = parts_from c.args.pair.now c.args.partition.now.part_of.items c.args.partition.now.points.items c.m.ensures.pair c.requires c.len.result
    c.vertices.result.now count (c.vertices.ensures.value ∙ ap (λ (p : PolytopeState). p.vertices) c.m.ensures.value) in
    made_cone c.args.pair.now c.args.partition.now.part_of.items c.args.partition.now.points.items (c.len.result / length c.vertices.result.now)
    c.in_ok-members.members.items c.in_ok-functions.functions.items
    (made_from c.args.pair.now c.args.partition.now.part_of.items c.args.partition.now.points.items c.m.ensures.pair c.requires
    (c.len.result / length c.vertices.result.now) c.points.result.now c.vertices-2.result.now c.deref-2.result.now c.deref.result.now
    c.in_ok-members.members.items c.in_ok-functions.functions.items r ps ns c.deref-2.ensures.value c.deref.ensures.value
    c.in_ok-members.ensures.members c.in_ok-functions.ensures.functions)
    c.dim.result (c.dim.ensures.value ∙ ap (λ (p : PolytopeState). dimension_of p.vertices) c.m-3.ensures.value)
    c.in_ok-members.ensures.ascends c.in_ok-functions.ensures.ascends
