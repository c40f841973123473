use Rattle.std.proofs.Common.{List, ℤ, sym, subst}
use Rattle.std.proofs.lemmas.List.Sorted.{Contains-permutation, IsPermutation-sym}
use Rattle.lattice_theory.specs.Facet.{AreFacetsInAnyOrder}
use Rattle.lattice_core.specs.Dimensions.{dimension_of}
use Rattle.polytope_vectors.proofs.hulls.lead_in_any_order.Goals as goal

pub lead_to-requires-clause-facets : goal.lead_to-requires-clause-facets
lead_to-requires-clause-facets c = subst (λ (ps : List (List ℤ)). AreFacetsInAnyOrder (dimension_of ps) ps c.facets-2.result.now)
    c.requires.same c.facets-2.ensures.facets.members

pub lead_to-requires-then-branch-clause-facets : goal.lead_to-requires-then-branch-clause-facets
lead_to-requires-then-branch-clause-facets c =
    let points = c.args.points.now in
    let copied = subst (AreFacetsInAnyOrder (dimension_of points) points) (sym c.in_ok-facets.ensures)
    (subst (λ (ps : List (List ℤ)). AreFacetsInAnyOrder (dimension_of ps) ps c.facets.result.now) c.requires.same
    c.facets.ensures.facets.members) in
    let turned = c.reverse.ensures.permutation in
    rw c.deref.ensures.value (λ f. (
      λ k. (copied f).0 (Contains-permutation _ _ f (IsPermutation-sym _ _ turned) k),
      λ h. Contains-permutation _ _ f turned ((copied f).1 h),
    ))
