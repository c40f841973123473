-- What shows by a few numbers whether points are around the origin: both tests are equations and inequalities of integers. This project's own.
use Rattle.std.specs.Prelude.{◌≡◌, ◌≢◌, ℕ, ◌<◌, List, [], ◌∷◌, length, map, ℤ, pos, ◌+ℤ◌, ◌*ℤ◌, ◌≤ℤ◌}
use Rattle.std.specs.List.{All, Contains}
use Rattle.lattice_theory.specs.Vector.{entry, dot}

-- a certificate against: a linear function that isn't 0 and is nonnegative on the points
pub record IsRefuter (n : ℕ) (points : List (List ℤ)) (f : List ℤ) : Type 0 where
  pub dimension : length f ≡ n
  pub nonnegative : All (λ y. pos 0 ≤ℤ dot f y) points
  pub place : ℕ
  pub nonzero : entry f place ≢ pos 0

-- the entries of the vectors at the place j
abbrev pub entries_at : ℕ → List (List ℤ) → List ℤ
entries_at j vectors = map (λ y. entry y j) vectors

-- the sum of integers
abbrev pub integer_sum : List ℤ → ℤ
integer_sum [] = pos 0
integer_sum (a ∷ x) = a +ℤ integer_sum x

-- an inverse of vectors up to a divisor that isn't 0: the k-th row makes the k-th unit vector of them, times the divisor
pub record HasInverse (n : ℕ) (vectors : List (List ℤ)) : Type 0 where
  pub divisor : ℤ
  pub nonzero : divisor ≢ pos 0
  pub rows : ℕ → List ℤ
  pub own : (k : ℕ) → k < n → dot (rows k) (entries_at k vectors) ≡ divisor
  pub others : (k j : ℕ) → k < n → j < n → k ≢ j → dot (rows k) (entries_at j vectors) ≡ pos 0

-- a certificate for: some of the points have an inverse, and the sum of all points, taken a positive number of times, together with natural
-- multiples of the chosen ones is 0
pub record IsSurrounded (n : ℕ) (points : List (List ℤ)) : Type 0 where
  pub chosen : List (List ℤ)
  pub inside : (y : List ℤ) → Contains chosen y → Contains points y
  pub inverse : HasInverse n chosen
  pub times : ℕ
  pub positive : 0 < times
  pub multiples : List ℕ
  pub balance : (j : ℕ) → j < n → pos times *ℤ integer_sum (entries_at j points) +ℤ dot (map pos multiples) (entries_at j chosen) ≡ pos 0
