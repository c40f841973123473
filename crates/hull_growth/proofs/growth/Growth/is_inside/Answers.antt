use Rattle.std.proofs.Common.{◌≡◌, ◌↔◌, ◌≤ℤ◌, pos, length, sym, subst}
use Rattle.std.specs.Prelude.{IsTrue}
use Rattle.std.specs.List.{All}
use Rattle.lattice_theory.specs.Affine.{value}
use Rattle.lattice_theory.specs.Hull.{InHull}
use Rattle.lattice_core.specs.Dimensions.{dimension_of}
use Rattle.hull_growth.proofs.Small.{facets_constants}
use Rattle.hull_growth.proofs.RidgeTests.{decided}
use Rattle.hull_growth.proofs.Inside.{inside_by_facets}
use Rattle.hull_growth.proofs.growth.Growth.is_inside.Goals as goal

pub are_nonnegative_at-requires-clause-constants : goal.are_nonnegative_at-requires-clause-constants
are_nonnegative_at-requires-clause-constants c =
    let corners = c.self.inside.corners.items in
    let grown = c.self.invariant.0 in
    rw c.deref.ensures.value
    (facets_constants (dimension_of corners) corners c.self.inside.facets.functions.items grown.solid.sized.are_points.one_dimension
    grown.solid.solid grown.solid.sized.within grown.hull.members)

pub returns : goal.returns
returns c =
    let corners = c.self.inside.corners.items in
    let fs = c.self.inside.facets.functions.items in
    let p = c.args.p.now in
    let grown = c.self.invariant.0 in
    let e = subst (λ b. length p ≡ dimension_of b.corners) (sym c.self.view_is) c.requires.dimension in
    subst (λ b. IsTrue c.are_nonnegative_at.result ↔ InHull (dimension_of b.corners) b.corners p) c.self.view_is
    (decided (All (λ f. pos 0 ≤ℤ value f p) fs) (InHull (dimension_of corners) corners p) (IsTrue c.are_nonnegative_at.result)
    (inside_by_facets (dimension_of corners) corners fs p grown.solid.sized.are_points.some grown.solid.sized.are_points.one_dimension
    grown.solid.solid grown.hull e) (rw c.deref.ensures.value at c.are_nonnegative_at.ensures))
