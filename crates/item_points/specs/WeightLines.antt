-- The points of a weight line: its exponent vectors less (1, .., 1), in the coordinates of the frame. The limits are this project's own.
use Rattle.std.specs.Prelude.{◌≡◌, ℕ, ◌+◌, ◌<◌, ◌≤◌, nat_lt, if◌then◌else◌, List, [], ◌∷◌, length, ℤ, Option, None, Some}
use Rattle.lattice_core.specs.Weights.{Weighted, columns_of, degree_product, monomial_point}
use Rattle.lattice_core.specs.declared.faults.Refusal.{Refusal}
use Rattle.lattice_core.specs.declared.faults.Refusal.TheVariants.{Limit}
use Rattle.lattice_core.specs.declared.faults.LimitName.TheVariants.{Systems, Weights, Degree, DegreeProduct, Frame, Dim, Monomials}
use Rattle.weight_points.specs.Members.{AreMonomials}
use Rattle.weight_frame.specs.Frame.{AreCoordinates}
use Rattle.weight_frame.specs.Answers.{ExceedsEntryLimit, IsFrameWithinLimit, HasOtherDimension}
use Rattle.lattice_core.specs.declared.limits.TheConstants.{MOST_SYSTEMS, MOST_WEIGHTS, MOST_DEGREE, MOST_DEGREE_PRODUCT, MOST_COORDINATES, MOST_MONOMIALS}

-- the first degree above the limit
abbrev pub first_large_degree : List Weighted → Option ℕ
first_large_degree [] = None
first_large_degree (system ∷ systems) = if nat_lt MOST_DEGREE system.degree then Some system.degree else first_large_degree systems

-- the limit that the degrees exceed: the first degree above the limit is told, then the product of all degrees
abbrev pub degrees_refusal : List Weighted → Option ℕ → Option Refusal
degrees_refusal systems (Some degree) = Some (Limit Degree degree)
degrees_refusal systems None =
    if nat_lt MOST_DEGREE_PRODUCT (degree_product systems) then Some (Limit DegreeProduct (degree_product systems)) else None

-- the first limit that the numbers of a weight line exceed: its systems, the weights of each, a degree, the product of all degrees
abbrev pub numbers_refusal : List Weighted → Option Refusal
numbers_refusal systems =
    if nat_lt MOST_SYSTEMS (length systems) then Some (Limit Systems (length systems))
    else (if nat_lt MOST_WEIGHTS (columns_of systems) then Some (Limit Weights (columns_of systems))
    else degrees_refusal systems (first_large_degree systems))

-- the numbers are within their limits, and the frame has 1 to 6 vectors
pub record HasFrame (systems : List Weighted) : Type 0 where
  pub numbers : numbers_refusal systems ≡ None
  pub vectors : List (List ℤ)
  pub is_frame : IsFrameWithinLimit systems vectors
  pub least : 1 ≤ length vectors
  pub most : length vectors ≤ MOST_COORDINATES

-- the points have, one after another, the coordinates of the exponent vectors' points
abbrev pub HaveCoordinates : ℕ → List (List ℤ) → List (List ℤ) → List (List ℤ) → Type 0
HaveCoordinates n vectors [] [] = Unit {0}
HaveCoordinates n vectors (a ∷ members) (p ∷ points) = AreCoordinates n vectors (monomial_point a) p
    × HaveCoordinates n vectors members points
HaveCoordinates n vectors members points = ⊥

-- there are few exponent vectors, and at least one, and these are their points in the frame
pub record AreWeightPoints (systems : List Weighted) (points : List (List ℤ)) : Type 0 where
  pub frame : HasFrame systems
  pub members : List (List ℤ)
  pub are_monomials : AreMonomials systems members
  pub some : 1 ≤ length members
  pub few : length members ≤ MOST_MONOMIALS
  pub coordinates : HaveCoordinates (columns_of systems) frame.vectors members points

-- there are too many exponent vectors: one more than the limit is told
pub record HaveManyMonomials (systems : List Weighted) (told : ℕ) : Type 0 where
  pub frame : HasFrame systems
  pub members : List (List ℤ)
  pub are_monomials : AreMonomials systems members
  pub many : MOST_MONOMIALS < length members
  pub told_is : told ≡ MOST_MONOMIALS + 1

-- why a weight line is refused before the size of its points: a number of the line, an entry in the frame's recursion, the dimension, the
-- number of exponent vectors. Each is asked where those before it hold.
pub data IsWeightRefusal (systems : List Weighted) : Refusal → Type 0 where
  number : {cause : Refusal} → numbers_refusal systems ≡ Some cause → IsWeightRefusal systems cause
  entry : {told : ℕ} → numbers_refusal systems ≡ None → ExceedsEntryLimit systems told → IsWeightRefusal systems (Limit Frame told)
  other_dimension : {n : ℕ} → numbers_refusal systems ≡ None → HasOtherDimension systems n → IsWeightRefusal systems (Limit Dim n)
  many_monomials : {told : ℕ} → HaveManyMonomials systems told → IsWeightRefusal systems (Limit Monomials told)
