-- The laws of interior-point systems, as statements.
use Rattle.std.specs.Prelude.{◌≡◌, ◌≢◌, ◌⊎◌, ◌↔◌, ℕ, suc, ◌+◌, ◌*◌, ◌<◌, ◌≤◌, List, [], ◌∷◌, ◌++◌, length, ℤ, pos, ◌+ℤ◌, ◌*ℤ◌, ◌≤ℤ◌, slice_index_or}
use Rattle.std.specs.List.{All}
use Rattle.lattice_theory.specs.Vector.{entry, HaveDimension}
use Rattle.lattice_theory.specs.Order.{Lists}
use Rattle.walk_theory.specs.Walks.{NumbersLess, Guide, walk, IsSought}
use Rattle.lattice_core.specs.Weights.{Weighted, IsMonomial, weighted_degree}
use Rattle.interior_point_theory.specs.Interior.{HasInteriorPoint, IsInteriorPointSystem, AreSystemsOfRange, ones, system_of}
use Rattle.interior_point_theory.specs.Around.{AreAround, OnlyZeroIsNonnegative, HasTails}
use Rattle.interior_point_theory.specs.Certificates.{IsRefuter, IsSurrounded}
use Rattle.interior_point_theory.specs.Beginnings.{MayFollow, IsWeightGuide, by_degrees}

-- points are around the origin exactly where of the linear functions only 0 is nonnegative on them
abbrev pub AroundByFunctions : Type 0
AroundByFunctions = (n : ℕ) (points : List (List ℤ)) → 0 < n → HaveDimension n points → AreAround n points ↔ OnlyZeroIsNonnegative n points

-- (1, .., 1) is in the interior exactly where the tails are around the origin
abbrev pub InteriorByTails : Type 0
InteriorByTails = (n : ℕ) (system : Weighted) (tails : List (List ℤ)) → HasTails n system tails
    → HasInteriorPoint system ↔ AreAround n tails

-- a linear function that isn't 0 and is nonnegative on the tails refutes an interior point
abbrev pub RefutersRefute : Type 0
RefutersRefute = (n : ℕ) (system : Weighted) (tails : List (List ℤ)) (f : List ℤ) → HasTails n system tails → IsRefuter n tails f
    → HasInteriorPoint system → ⊥

-- tails that are surrounded confirm it
abbrev pub SurroundedTailsConfirm : Type 0
SurroundedTailsConfirm = (n : ℕ) (system : Weighted) (tails : List (List ℤ)) → HasTails n system tails → IsSurrounded n tails
    → HasInteriorPoint system

-- points that are surrounded have no linear function but 0 that is nonnegative on them
abbrev pub SurroundedPoints : Type 0
SurroundedPoints = (n : ℕ) (points : List (List ℤ)) → IsSurrounded n points → OnlyZeroIsNonnegative n points

-- the k-th largest weight, times k + 1, isn't above the degree: for each k below the number of weights, and for that number where the degree
-- is another one
abbrev pub LargestWeights : Type 0
LargestWeights = (system : Weighted) (place k : ℕ) → IsInteriorPointSystem system → place + k ≡ length system.weights → 0 < k
    → (0 < place) ⊎ (system.degree ≢ length system.weights) → (k + 1) * slice_index_or system.weights place 0 ≤ system.degree

-- of at least two positive weights none has an exponent that is at most 1 in all exponent vectors
abbrev pub SomeExponentAboveOne : Type 0
SomeExponentAboveOne = (system : Weighted) (i : ℕ) → All (λ w. 1 ≤ w) system.weights → i < length system.weights → 1 < length system.weights
    → ((a : List ℤ) → IsMonomial (system ∷ []) a → entry a i ≤ℤ pos 1) → HasInteriorPoint system → ⊥

-- so the weights take the degree with each of them twice
abbrev pub TakenTwice : Type 0
TakenTwice = (system : Weighted) (i : ℕ) → All (λ w. 1 ≤ w) system.weights → i < length system.weights → 1 < length system.weights
    → ((b : List ℤ) → length b ≡ length system.weights → All (λ e. pos 0 ≤ℤ e) b
    → weighted_degree system b +ℤ pos 2 *ℤ pos (slice_index_or system.weights i 0) ≡ pos system.degree → ⊥)
    → HasInteriorPoint system → ⊥

-- n weights 1, n at least 1, are a system of the degree n
abbrev pub OnesAreSystem : Type 0
OnesAreSystem = (n : ℕ) → 0 < n → IsInteriorPointSystem (system_of n (ones n))

-- no other system has a degree that isn't above the number of its weights
abbrev pub OnesAlone : Type 0
OnesAlone = (system : Weighted) → IsInteriorPointSystem system → system.degree ≤ length system.weights
    → system ≡ system_of (length system.weights) (ones (length system.weights))

-- in a system each weight may follow those before it
abbrev pub WeightsMayFollow : Type 0
WeightsMayFollow = (degree v : ℕ) (b rest : List ℕ) → IsInteriorPointSystem (system_of degree (b ++ v ∷ rest))
    → MayFollow degree b v (suc (length rest))

-- the walk of a weight guide lists all interior-point systems of the degree, each once, in order
abbrev pub WeightWalk : Type 0
WeightWalk = (degree n : ℕ) (g : Guide) → IsWeightGuide degree n g
    → Lists NumbersLess (IsSought (λ x. IsInteriorPointSystem (system_of degree x)) n) (walk g n [])

-- the lists of the degrees, one behind another, are the list of the range
abbrev pub SystemsByDegrees : Type 0
SystemsByDegrees = (dim low count : ℕ) (f : ℕ → List (List ℕ))
    → ((d : ℕ) → low ≤ d → d ≤ low + count → Lists NumbersLess (IsSought (λ x. IsInteriorPointSystem (system_of d x)) (dim + 1)) (f d))
    → AreSystemsOfRange dim low (low + count) (by_degrees f low (suc count))

-- a range has one such list
abbrev pub SystemsAreSingle : Type 0
SystemsAreSingle = (dim low high : ℕ) (xs ys : List Weighted) → AreSystemsOfRange dim low high xs → AreSystemsOfRange dim low high ys → xs ≡ ys
