-- The hull of the segment from -2 to 5, as the tests take it.
use Rattle.std.proofs.Common.{◌≡◌, ◌≢◌, ◌≤◌, List, [], ◌∷◌, ◌++◌, length, ℤ, pos, refl, ap, All, arith}
use Rattle.std.specs.Prelude.{nat_abs}
use Rattle.std.proofs.lemmas.Int.{ints}
use Rattle.std.proofs.lemmas.List.Elements.{All-nil, All-cons}
use Rattle.std.proofs.lemmas.List.Kept.{AllPairs-cons}
use Rattle.lattice_theory.specs.Vector.{HaveDimension}
use Rattle.lattice_theory.specs.Affine.{Affine, value}
use Rattle.lattice_theory.specs.Examples.{segment, on_line, minus2}
use Rattle.lattice_theory.proofs.Members.{empty, more, all_from_each}
use Rattle.lattice_theory.proofs.SegmentFacets.{lower, upper, segment_facets, segment_not_flat}
use Rattle.lattice_core.specs.Limits.{IsSized}
use Rattle.lattice_core.specs.PointLists.{AreSolidPoints}
use Rattle.lattice_core.specs.ValueWidths.{IsNarrowAt}
use Rattle.hull_growth.specs.Grown.{HasFacets}

-- the ends aren't flat
pub solid_segment : AreSolidPoints segment
solid_segment = record {
  sized = record {
    are_points = record { some = omega arith; one_dimension = all_from_each {P = λ p. length p ≡ 1} (more refl (more refl empty)) };
    within = omega arith;
  };
  solid = segment_not_flat;
}

-- their facets
pub segment_hull : HasFacets 1 segment (lower ∷ upper ∷ [])
segment_hull = record {
  once = AllPairs-cons (λ f g. f ≢ g) lower (upper ∷ []) (All-cons (λ g. lower ≢ g) upper [] differ (All-nil (λ g. lower ≢ g)))
      (λ i j d h l. absurd (omega arith));
  members = segment_facets;
}
  where
    clash : pos 0 ≡ pos 7 → ⊥
    clash e = absurd (omega (arith, ints))

    differ : lower ≢ upper
    differ e = clash (ap (λ (f : Affine). value f (on_line minus2)) e)

-- the two points to the right
abbrev pub right : List (List ℤ)
right = (pos 7 ∷ []) ∷ (pos 9 ∷ []) ∷ []

pub right_match : All (λ f. HaveDimension (length f.normal) right) (lower ∷ upper ∷ [])
right_match = all_from_each {P = λ f. HaveDimension (length f.normal) right} (more dimension (more dimension empty))
  where
    dimension : HaveDimension 1 right
    dimension = all_from_each {P = λ p. length p ≡ 1} (more refl (more refl empty))

-- the sides' values there are small
pub sides_narrow : All (λ f. All (IsNarrowAt f) right) (lower ∷ upper ∷ [])
sides_narrow = all_from_each {P = λ f. All (IsNarrowAt f) right} (more
    (all_from_each {P = IsNarrowAt lower} (more (lower_at (pos 7) (omega arith)) (more (lower_at (pos 9) (omega arith)) empty)))
    (more (all_from_each {P = IsNarrowAt upper} (more (upper_at (pos 7) (omega arith)) (more (upper_at (pos 9) (omega arith)) empty))) empty))
  where
    lower_at : (x : ℤ) → nat_abs x ≤ 10 → IsNarrowAt lower (x ∷ [])
    lower_at x h = record { bound = 1; entries = all_from_each {P = λ a. nat_abs a ≤ 1} (more (omega arith) empty); sums = omega arith }

    upper_at : (x : ℤ) → nat_abs x ≤ 10 → IsNarrowAt upper (x ∷ [])
    upper_at x h = record { bound = 1; entries = all_from_each {P = λ a. nat_abs a ≤ 1} (more (omega arith) empty); sums = omega arith }

-- the ends and a point near them
pub near_within : (x : ℤ) → nat_abs x ≤ 1000 → IsSized 1 (segment ++ ((x ∷ []) ∷ []))
near_within x h = omega arith
