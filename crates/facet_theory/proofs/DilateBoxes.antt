-- The dilates of the hull: the first is the hull, and each lies in the dilate of a box of the points.
use Rattle.std.proofs.Common.{◌≡◌, ℕ, List, length, ℤ, pos, ◌*ℤ◌, ◌≤ℤ◌, sym}
use Rattle.std.proofs.lemmas.List.Elements.{All-contains}
use Rattle.lattice_theory.specs.Vector.{entry}
use Rattle.lattice_theory.specs.Affine.{Affine, value_over, IsNonnegative}
use Rattle.lattice_theory.specs.Points.{IsLatticePoint, IsDilatePoint}
use Rattle.lattice_theory.proofs.Integers.{difference_from, order_from}
use Rattle.lattice_theory.proofs.Members.{In, contains_from_in}
use Rattle.facet_theory.specs.Solid.{AreSolid}
use Rattle.facet_theory.specs.Laws.{FirstDilateIsHull, DilateInBox}
use Rattle.facet_theory.proofs.Lifted.{value_at_one}
use Rattle.facet_theory.proofs.Signs.{nonnegative_same, nonnegative_from}
use Rattle.facet_theory.proofs.Coordinates.{above_low, below_high, length-above_low, length-below_high, above_low-over, below_high-over, above_low-value, below_high-value}
use Rattle.facet_theory.proofs.Generate.{facets_generate_lem}
use Rattle.facet_theory.proofs.Hull.{sum_nonnegative, hull_by_facets_lem}

-- the law on the first dilate
pub first_dilate_is_hull_lem : FirstDilateIsHull
first_dilate_is_hull_lem n points solid x = (to, from)
  where
    to : IsDilatePoint n points 1 x → IsLatticePoint n points x
    to d = record {
      dimension = d.dimension;
      inside = (hull_by_facets_lem n points solid x d.dimension).1 (λ f facet. nonnegative_same (value_at_one f x) (d.inside f facet));
    }

    from : IsLatticePoint n points x → IsDilatePoint n points 1 x
    from l = record {
      dimension = l.dimension;
      inside = λ f facet. nonnegative_same (sym (value_at_one f x)) ((hull_by_facets_lem n points solid x l.dimension).0 l.inside f facet);
    }

-- a function that is nonnegative on the points is nonnegative on the dilate, its constant taken j times
nonnegative_over : (n : ℕ) (points : List (List ℤ)) → AreSolid n points → (j : ℕ) (x : List ℤ) → IsDilatePoint n points j x
    → (f : Affine) → length f.normal ≡ n → IsNonnegative points f → pos 0 ≤ℤ value_over f x (pos j)
nonnegative_over n points solid j x dilate f e h = sum_nonnegative n points f (facets_generate_lem n points solid f e h) x
    (pos j) dilate.inside

-- the law on boxes
pub dilate_in_box_lem : DilateInBox
dilate_in_box_lem n points solid j x dilate i l low high within = (
  order_from (pos j *ℤ low) (entry x i) (nonnegative_same (above_low-over n i low l x (pos j))
      (nonnegative_over n points solid j x dilate (above_low n i low) (length-above_low n i low)
      (nonnegative_from points (above_low n i low) (λ q m. nonnegative_same (sym (above_low-value n i low l q))
      (difference_from low (entry q i) (at q m).0))))),
  order_from (entry x i) (pos j *ℤ high) (nonnegative_same (below_high-over n i high l x (pos j))
      (nonnegative_over n points solid j x dilate (below_high n i high) (length-below_high n i high)
      (nonnegative_from points (below_high n i high) (λ q m. nonnegative_same (sym (below_high-value n i high l q))
      (difference_from (entry q i) high (at q m).1))))),
)
  where
    at : (q : List ℤ) → In q points → (low ≤ℤ entry q i) × (entry q i ≤ℤ high)
    at q m = All-contains (λ p. (low ≤ℤ entry p i) × (entry p i ≤ℤ high)) points q within (contains_from_in m)
