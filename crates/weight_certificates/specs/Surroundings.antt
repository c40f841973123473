-- Certificates that points are around the origin: some of the points with an inverse, and a sum that is 0. This project's own.
use Rattle.std.specs.Prelude.{◌≡◌, ◌≢◌, ℕ, ◌<◌, List, [], ◌∷◌, length, map, ℤ, pos, ◌+ℤ◌, ◌*ℤ◌, ◌≤ℤ◌, slice_index_or}
use Rattle.std.specs.List.{All}
use Rattle.lattice_theory.specs.Vector.{dot}
use Rattle.interior_point_theory.specs.Certificates.{entries_at, integer_sum}
use Rattle.weight_certificates.specs.declared.surroundings.Corner.{Corner}

-- the points that corners choose, their vectors, and how many times each of the points is taken besides
abbrev pub chosen : List (List ℤ) → List Corner → List (List ℤ)
chosen points corners = map (λ c. slice_index_or points c.place []) corners

abbrev pub vectors : List Corner → List (List ℤ)
vectors corners = map (λ c. c.vector) corners

abbrev pub multiples : List Corner → List ℤ
multiples corners = map (λ c. c.multiple) corners

-- each corner chooses one of the points
abbrev pub AreWithin : List (List ℤ) → List Corner → Type 0
AreWithin points corners = All (λ c. c.place < length points) corners

-- the vectors' entries at the place k make the k-th unit vector of the chosen points, times the divisor
pub record IsInverseAt (points : List (List ℤ)) (corners : List Corner) (divisor : ℤ) (k : ℕ) : Type 0 where
  pub own : dot (entries_at k (vectors corners)) (entries_at k (chosen points corners)) ≡ divisor
  pub others : (j : ℕ) → j < length corners → k ≢ j → dot (entries_at k (vectors corners)) (entries_at j (chosen points corners)) ≡ pos 0

-- the sum of all points, each taken so many times, and of the multiples of the chosen ones is 0 at the place j
abbrev pub IsBalancedAt : List (List ℤ) → List Corner → ℕ → ℕ → Type 0
IsBalancedAt points corners times j =
    pos times *ℤ integer_sum (entries_at j points) +ℤ dot (multiples corners) (entries_at j (chosen points corners)) ≡ pos 0

-- the corners, of which there are as many as coordinates, surround the origin: they choose points that have an inverse up to the divisor, and the
-- sum of all points, taken a positive number of times, and of natural multiples of the chosen ones is 0
pub record IsSurrounding (points : List (List ℤ)) (corners : List Corner) (divisor : ℤ) (times : ℕ) : Type 0 where
  pub within : AreWithin points corners
  pub dimension : All (λ c. length c.vector ≡ length corners) corners
  pub nonnegative : All (λ c. pos 0 ≤ℤ c.multiple) corners
  pub nonzero : divisor ≢ pos 0
  pub positive : 0 < times
  pub inverse : (k : ℕ) → k < length corners → IsInverseAt points corners divisor k
  pub balance : (j : ℕ) → j < length corners → IsBalancedAt points corners times j
