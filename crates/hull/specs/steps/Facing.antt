-- Corners and functions of a simplex. This project's own.
use Rattle.std.specs.Prelude.{◌≡◌, ◌≢◌, ℕ, zero, suc, ◌+ℤ◌, neg_ℤ, ◌+◌, ◌^◌, ◌<◌, ◌≤◌, List, [], length, ℤ, pos, negsuc, ◌<ℤ◌, ◌==◌, if◌then◌else◌, nat_abs, slice_index_or}
use Rattle.std.specs.List.{All}
use Rattle.lattice_theory.specs.Vector.{entry, dot, IsPrimitive}
use Rattle.lattice_theory.specs.Affine.{Affine, value}
use Rattle.lattice_theory.specs.Size.{reach, absolute_sum}
use Rattle.facet_theory.specs.Solid.{AreSolid}
use Rattle.lattice_core.specs.Combine.{IsSmallAt, HasFixedCombination}
use Rattle.hull.specs.steps.Tight.{function_of}

-- the corner at a place
abbrev pub corner_of : List (List ℤ) → ℕ → List ℤ
corner_of corners place = slice_index_or corners place []

-- each function is positive at the corner in its place and 0 at the others, with a normal of greatest common divisor 1
pub record AreFacing (n : ℕ) (corners : List (List ℤ)) (functions : List Affine) : Type 0 where
  pub corner_count : length corners ≡ n + 1
  pub function_count : length functions ≡ n + 1
  pub dimension : (i : ℕ) → i < n + 1 → length (function_of functions i).normal ≡ n
  pub primitive : (i : ℕ) → i < n + 1 → IsPrimitive (function_of functions i).normal
  pub away : (i : ℕ) → i < n + 1 → pos 0 <ℤ value (function_of functions i) (corner_of corners i)
  pub on : (i j : ℕ) → i < n + 1 → j < n + 1 → i ≢ j → value (function_of functions i) (corner_of corners j) ≡ pos 0

-- a point of dimension n lies in the box around 0 that reaches as far as the points
pub record IsReachedBy (n : ℕ) (points : List (List ℤ)) (p : List ℤ) : Type 0 where
  pub dimension : length p ≡ n
  pub within : (i : ℕ) → nat_abs (entry p i) ≤ reach points i

-- the corners of a simplex no larger than the points, with functions that face them
pub record IsFacingSimplex (n : ℕ) (points corners : List (List ℤ)) (functions : List Affine) : Type 0 where
  pub facing : AreFacing n corners functions
  pub solid : AreSolid n corners
  pub small : All (IsReachedBy n points) corners

-- h is f, turned to p about where g vanishes: it vanishes at p, and where g vanishes it is 0 or positive where f is
pub record IsTurned (f g : Affine) (p : List ℤ) (h : Affine) : Type 0 where
  pub dimension : length h.normal ≡ length p
  pub primitive : IsPrimitive h.normal
  pub vanishes : value h p ≡ pos 0
  pub zeros : (x : List ℤ) → value g x ≡ pos 0 → value f x ≡ pos 0 → value h x ≡ pos 0
  pub positive : (x : List ℤ) → value g x ≡ pos 0 → pos 0 <ℤ value f x → pos 0 <ℤ value h x

-- what turning f to p about where the axis vanishes supposes: the axis is positive and its opposite negative at p, both vanish together,
-- all are small, and the combination of f with the one of the other sign is fixed by points within the limit
pub record IsTurnable (f axis opposed : Affine) (p : List ℤ) : Type 0 where
  pub point : absolute_sum p ≤ 2 ^ 30
  pub constant : nat_abs f.constant ≤ 2 ^ 100
  pub function : IsSmallAt p f
  pub primitive : IsPrimitive f.normal
  pub first : IsSmallAt p axis
  pub second : IsSmallAt p opposed
  pub positive : pos 0 <ℤ value axis p
  pub negative : value opposed p <ℤ pos 0
  pub together : (x : List ℤ) → value axis x ≡ pos 0 → value opposed x ≡ pos 0
  pub before : pos 0 <ℤ value f p → HasFixedCombination f opposed p
  pub behind : value f p <ℤ pos 0 → HasFixedCombination f axis p

-- the axis is f or its opposite, whichever is positive at p, and the other one is opposed to it
pub record AreAxes (f : Affine) (p : List ℤ) (axis opposed : Affine) : Type 0 where
  pub dimension : length axis.normal ≡ length f.normal
  pub other_dimension : length opposed.normal ≡ length f.normal
  pub primitive : IsPrimitive axis.normal
  pub first : IsSmallAt p axis
  pub second : IsSmallAt p opposed
  pub positive : pos 0 <ℤ value axis p
  pub negative : value opposed p <ℤ pos 0
  pub zeros : (x : List ℤ) → value f x ≡ pos 0 → (value axis x ≡ pos 0) × (value opposed x ≡ pos 0)
  pub back : (x : List ℤ) → value axis x ≡ pos 0 → value f x ≡ pos 0

-- the unit step at a coordinate: towards 0, or from 0 to 1
abbrev pub unit_step : ℤ → ℤ
unit_step (pos zero) = pos 1
unit_step (pos (suc a)) = negsuc 0
unit_step (negsuc a) = pos 1

-- the step in the coordinate i along an axis
abbrev pub step_at : ℕ → ℕ → ℤ → ℤ
step_at axis i a = if i == axis then unit_step a else pos 0

-- q is one unit step along the axis from p
pub record IsStepped (p : List ℤ) (axis : ℕ) (q : List ℤ) : Type 0 where
  pub dimension : length q ≡ length p
  pub entries : (i : ℕ) → i < length p → entry q i ≡ entry p i +ℤ step_at axis i (entry p i)

-- f vanishes at p, and its normal is the unit step along the axis
pub record IsStepFunction (p : List ℤ) (axis : ℕ) (f : Affine) : Type 0 where
  pub dimension : length f.normal ≡ length p
  pub entries : (i : ℕ) → i < length p → entry f.normal i ≡ step_at axis i (entry p i)
  pub constant : f.constant ≡ neg_ℤ (dot f.normal p)

-- f has all unit steps, taken back, as its normal, and vanishes at q
pub record IsTopFunction (p q : List ℤ) (f : Affine) : Type 0 where
  pub dimension : length f.normal ≡ length p
  pub entries : (i : ℕ) → i < length p → entry f.normal i ≡ neg_ℤ (unit_step (entry p i))
  pub constant : f.constant ≡ neg_ℤ (dot f.normal q)

-- the corners are p and the points one unit step from it along each axis, with the functions that face them
pub record IsUnitSimplex (p : List ℤ) (corners : List (List ℤ)) (functions : List Affine) : Type 0 where
  pub corner_count : length corners ≡ length p + 1
  pub function_count : length functions ≡ length p + 1
  pub first : corner_of corners 0 ≡ p
  pub steps : (i : ℕ) → i < length p → IsStepped p i (corner_of corners (suc i))
  pub top : IsTopFunction p (corner_of corners 1) (function_of functions 0)
  pub sides : (i : ℕ) → i < length p → IsStepFunction p i (function_of functions (suc i))
