-- The segment from -2 to 5 as the calls take it.
use Rattle.std.specs.Prelude.{ℤ}
use Rattle.std.proofs.Common.{◌≡◌, List, [], ◌∷◌, length, refl, sym, subst, arith}
use Rattle.lattice_theory.specs.Affine.{Affine}
use Rattle.lattice_theory.specs.Facet.{AreFacetsInAnyOrder}
use Rattle.lattice_theory.specs.Examples.{segment}
use Rattle.lattice_theory.proofs.Members.{empty, more, all_from_each}
use Rattle.lattice_theory.proofs.SegmentFacets.{lower, upper, segment_facets, segment_not_flat}
use Rattle.lattice_core.specs.Dimensions.{dimension_of}
use Rattle.lattice_core.specs.PointLists.{AreSolidPoints}

solid_segment : AreSolidPoints segment
solid_segment = record {
  sized = record {
    are_points = record { some = omega arith; one_dimension = all_from_each {P = λ p. length p ≡ 1} (more refl (more refl empty)) };
    within = omega arith;
  };
  solid = segment_not_flat;
}

pub solid_ends : (ends : List (List ℤ)) → ends ≡ segment → AreSolidPoints ends
solid_ends ends e = subst AreSolidPoints (sym e) solid_segment

pub facets_of_ends : (ends : List (List ℤ)) (facets : List Affine) → ends ≡ segment → facets ≡ lower ∷ upper ∷ []
    → AreFacetsInAnyOrder (dimension_of ends) ends facets
facets_of_ends ends facets e f = rw (e, f) segment_facets
