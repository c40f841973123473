-- Weight systems with an interior point (math/0204356: weight systems for which (1, .., 1) is in the interior of the monomials' hull). The
-- order and the lists of a range are this project's own.
use Rattle.std.specs.Prelude.{◌≡◌, ◌⊎◌, ℕ, zero, suc, ◌+◌, ◌<◌, ◌≤◌, List, [], ◌∷◌, length, map, ℤ, pos, ◌≤ℤ◌}
use Rattle.std.specs.List.{All}
use Rattle.lattice_theory.specs.Vector.{dot, IsPrimitive, IsVectorMultiple}
use Rattle.lattice_theory.specs.Order.{Ascends, Lists, LexLess}
use Rattle.lattice_core.specs.Weights.{Weighted, IsMonomial, monomial_point, total}

-- the weights as a vector
abbrev pub weight_vector : Weighted → List ℤ
weight_vector system = map pos system.weights

-- the system of a degree and weights
abbrev pub system_of : ℕ → List ℕ → Weighted
system_of degree weights = record { degree = degree; weights = weights }

-- n weights 1
abbrev pub ones : ℕ → List ℕ
ones zero = []
ones (suc n) = 1 ∷ ones n

-- the linear function c is nonnegative on the points of the exponent vectors
abbrev pub IsNonnegativeOnMonomials : Weighted → List ℤ → Type 0
IsNonnegativeOnMonomials system c = (a : List ℤ) → IsMonomial (system ∷ []) a → pos 0 ≤ℤ dot c (monomial_point a)

-- (1, .., 1) is in the interior of the exponent vectors: each linear function with integer coefficients that is nonnegative on their points is
-- a rational multiple of the weights, so that it is 0 on all of them
abbrev pub HasInteriorPoint : Weighted → Type 0
HasInteriorPoint system = (c : List ℤ) → length c ≡ length system.weights → IsNonnegativeOnMonomials system c
    → IsVectorMultiple c (weight_vector system)

-- an interior-point weight system: its weights are positive, don't descend, have greatest common divisor 1 and the degree as their sum
pub record IsInteriorPointSystem (system : Weighted) : Type 0 where
  pub positive : All (λ w. 1 ≤ w) system.weights
  pub ascends : Ascends (λ v w. v ≤ w) system.weights
  pub primitive : IsPrimitive (weight_vector system)
  pub sum : total system.weights ≡ system.degree
  pub interior : HasInteriorPoint system

-- systems are ordered by their degrees, then by their weights
abbrev pub SystemLess : Weighted → Weighted → Type 0
SystemLess s t = (s.degree < t.degree) ⊎ ((s.degree ≡ t.degree) × LexLess (weight_vector s) (weight_vector t))

-- an interior-point system with dim + 1 weights whose degree is from low to high
pub record IsSystemOfRange (dim low high : ℕ) (system : Weighted) : Type 0 where
  pub columns : length system.weights ≡ dim + 1
  pub least : low ≤ system.degree
  pub most : system.degree ≤ high
  pub is_system : IsInteriorPointSystem system

-- all of them, each once, in order
abbrev pub AreSystemsOfRange : ℕ → ℕ → ℕ → List Weighted → Type 0
AreSystemsOfRange dim low high systems = Lists SystemLess (IsSystemOfRange dim low high) systems
