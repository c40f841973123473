-- Visits of the lattice points of a dilate. A visitor is told by what one visit does to it: the visitor before, the point, the answer whether
-- it wants more, and the visitor after. This project's own.
use Rattle.std.specs.Prelude.{◌≡◌, ℕ, Bool, true, false, List, [], ◌∷◌, ◌++◌, ℤ}
use Rattle.point_scan.specs.Dilates.{AreDilatePoints}

-- after took the points in order, each with the answer true
pub data Visited {V : Type 0} (visits : V → List ℤ → Bool → V → Type 0) (before : V) : List (List ℤ) → V → Type 0 where
  none : Visited visits before [] before
  one_more : (xs : List (List ℤ)) (x : List ℤ) (middle after : V) → Visited visits before xs middle → visits middle x true after
      → Visited visits before (xs ++ x ∷ []) after

-- it took those of a front of the list, and the next one with the answer false
pub record StopsWithin {V : Type 0} (visits : V → List ℤ → Bool → V → Type 0) (before : V) (xs : List (List ℤ)) (after : V) : Type 0 where
  pub front : List (List ℤ)
  pub x : List ℤ
  pub rest : List (List ℤ)
  pub middle : V
  pub whole : xs ≡ front ++ x ∷ rest
  pub visited : Visited visits before front middle
  pub last : visits middle x false after

-- it took all points of the list, or stopped within it, by the answer
abbrev pub Visits : {V : Type 0} (visits : V → List ℤ → Bool → V → Type 0) → V → List (List ℤ) → Bool → V → Type 0
Visits visits before xs true after = Visited visits before xs after
Visits visits before xs false after = StopsWithin visits before xs after

-- so for the lattice points of the j-th dilate, in order
pub record VisitsDilate {V : Type 0} (visits : V → List ℤ → Bool → V → Type 0) (n : ℕ) (points : List (List ℤ)) (j : ℕ) (before : V) (all : Bool)
    (after : V) : Type 0 where
  pub lattice : List (List ℤ)
  pub are_dilate_points : AreDilatePoints n points j lattice
  pub taken : Visits visits before lattice all after
