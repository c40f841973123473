use Rattle.std.proofs.Common.{List, ℤ, sym, subst}
use Rattle.lattice_theory.specs.Affine.{Affine}
use Rattle.lattice_theory.specs.Facet.{AreFacetsInAnyOrder}
use Rattle.lattice_core.specs.Dimensions.{dimension_of}
use Rattle.cayley.proofs.scans.is_large.Goals as goal

pub count_to-requires-clause-facets : goal.count_to-requires-clause-facets
count_to-requires-clause-facets c =
    subst (λ (fs : List Affine). AreFacetsInAnyOrder (dimension_of c.vertices-vertices.result.now) c.vertices-vertices.result.now fs)
    (sym c.facets.ensures.value)
    (subst (λ (vs : List (List ℤ)). AreFacetsInAnyOrder (dimension_of vs) vs c.args.polytope.now.facets) (sym c.vertices-vertices.ensures.value)
    c.vertices-vertices.ensures.polytope.facets_are.members)
