-- The lattice points of a dilate are the points of its box that lie inside all facets.
use Rattle.std.specs.Prelude.{ℤ, pos, ◌≤ℤ◌, int_le}
use Rattle.std.specs.List.{filter}
use Rattle.std.proofs.Common.{◌≡◌, ℕ, ◌<◌, true, List, length, sym, ◌∙◌, arith}
use Rattle.std.proofs.lemmas.Int.{ints}
use Rattle.lattice_theory.specs.Affine.{Affine, value_over}
use Rattle.lattice_theory.specs.Order.{LexLess}
use Rattle.lattice_theory.specs.Facet.{AreFacetsInAnyOrder}
use Rattle.lattice_theory.specs.Points.{AreLatticePoints, IsDilatePoint}
use Rattle.lattice_theory.proofs.Members.{each_from_in, each_in, in_from_contains, contains_from_in}
use Rattle.facet_theory.specs.Solid.{AreSolid}
use Rattle.facet_theory.proofs.DilateBoxes.{first_dilate_is_hull_lem, dilate_in_box_lem}
use Rattle.lattice_theory.specs.Grid.{grid, IsInBox}
use Rattle.lattice_theory.proofs.GridLists.{grid_lists}
use Rattle.point_scan.specs.ScanSteps.{AreCorners, is_inside}
use Rattle.point_scan.specs.Dilates.{AreDilatePoints}
use Rattle.lattice_theory.proofs.Sublists.{in_filter, from_filter, ascends_filter, each_passes, all_pass}

-- inside, as a test and as a fact
test_of : (z : ℤ) → pos 0 ≤ℤ z → int_le (pos 0) z ≡ true
test_of z h = grind (arith, ints)

-- and back
fact_of : (z : ℤ) → int_le (pos 0) z ≡ true → pos 0 ≤ℤ z
fact_of z e = grind (arith, ints)

module _ (n : ℕ) (points : List (List ℤ)) (solid : AreSolid n points) (j : ℕ) where
  module _ (low high : List ℤ) (corners : AreCorners n points j low high) where
    -- so the dilate lies in the box
    pub dilate_in_box : (x : List ℤ) → IsDilatePoint n points j x → IsInBox low high x
    dilate_in_box x dilate = record {
      low_dimension = corners.low_dimension ∙ sym dilate.dimension;
      high_dimension = corners.high_dimension ∙ sym dilate.dimension;
      within = λ i l.
          let within : i < n = let e = dilate.dimension in omega arith in
          let s = corners.spans i within in
          let b = dilate_in_box_lem n points solid j x dilate i within s.lowest s.highest s.spans.within in
          (rw s.low_is b.0, rw s.high_is b.1);
    }

-- a box that holds the dilate
module _ (n : ℕ) (points : List (List ℤ)) (j : ℕ) (low high : List ℤ) (dimension : length low ≡ n) (same : length high ≡ length low)
    (holds : (x : List ℤ) → IsDilatePoint n points j x → IsInBox low high x) (facets : List Affine)
    (are : AreFacetsInAnyOrder n points facets) where
  -- each point of the box that is inside is in the dilate
  inside_is_dilate : (p : List ℤ) → IsInBox low high p → is_inside facets j p ≡ true → IsDilatePoint n points j p
  inside_is_dilate p box e =
      let passes = each_passes (λ (f : Affine). int_le (pos 0) (value_over f p (pos j))) facets e in
      record {
        dimension = sym box.low_dimension ∙ dimension;
        inside = λ f facet. fact_of (value_over f p (pos j)) (each_in passes (in_from_contains facets ((are f).1 facet)));
      }

  -- each of the dilate is inside
  dilate_is_inside : (p : List ℤ) → IsDilatePoint n points j p → is_inside facets j p ≡ true
  dilate_is_inside p dilate = all_pass (λ (f : Affine). int_le (pos 0) (value_over f p (pos j))) facets
      (each_from_in facets (λ f m. test_of (value_over f p (pos j)) (dilate.inside f ((are f).0 (contains_from_in m)))))

  -- so these are the dilate's points
  pub inside_are_dilate_points : AreDilatePoints n points j (filter (is_inside facets j) (grid low high))
  inside_are_dilate_points =
      let box = grid_lists low high (sym same) in
      record {
        ascends = ascends_filter LexLess (is_inside facets j) (grid low high) box.ascends;
        members = λ p. (
          λ c.
              let k = from_filter (is_inside facets j) (grid low high) (in_from_contains _ c) in
              inside_is_dilate p ((box.members p).0 (contains_from_in k.member)) k.passes,
          λ d. contains_from_in (in_filter (is_inside facets j) (grid low high)
              (in_from_contains _ ((box.members p).1 (holds p d))) (dilate_is_inside p d)),
        );
      }

-- the first dilate is the hull
pub lattice_from_dilate : (n : ℕ) (points : List (List ℤ)) → AreSolid n points → (xs : List (List ℤ)) → AreDilatePoints n points 1 xs
    → AreLatticePoints n points xs
lattice_from_dilate n points solid xs are = record {
  ascends = are.ascends;
  members = λ p.
      let same = first_dilate_is_hull_lem n points solid p in
      (λ c. same.0 ((are.members p).0 c), λ l. (are.members p).1 (same.1 l));
}
