use Rattle.std.proofs.Common.{◌≡◌, List, ℤ, ◌∙◌, subst, arith}
use Rattle.std.proofs.lemmas.List.{take_all}
use Rattle.lattice_theory.specs.Facet.{AreFacetsInAnyOrder}
use Rattle.lattice_core.specs.Dimensions.{dimension_of}
use Rattle.polytope_vectors.proofs.FrontPoints.{next_dimension}
use Rattle.polytope_vectors.proofs.large_hulls.grown.Goals as goal

pub insert-requires : goal.insert-requires
insert-requires c = next_dimension c.args.points.now c.loop-i.builder.points c.loop-i.i c.index-points-i.result c.requires.points.one_dimension
    c.loop-i.invariant.some c.loop-i-test.true c.index-points-i.is c.loop-i.invariant.same

pub vertices_of-requires-clause-facets : goal.vertices_of-requires-clause-facets
vertices_of-requires-clause-facets c =
    let all : c.loop-i.builder.points ≡ c.args.points.now = c.loop-i.invariant.same ∙ take_all c.loop-i.i c.args.points.now (omega arith) in
    subst (λ (ps : List (List ℤ)). AreFacetsInAnyOrder (dimension_of ps) ps c.facets.result.now) all c.facets.ensures.facets.members
