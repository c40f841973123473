-- Weight systems, the lattice on which they vanish, and their exponent vectors (math/0204356: weight systems, combined weight systems and
-- their monomials). The limits are this project's own.
use Rattle.std.specs.Prelude.{◌≡◌, ℕ, ◌+◌, ◌*◌, ◌<◌, ◌≤◌, List, [], ◌∷◌, length, map, ℤ, pos, ◌-ℤ◌, ◌≤ℤ◌, slice_index_or}
use Rattle.std.specs.List.{All, Contains}
use Rattle.lattice_theory.specs.Vector.{dot}
use Rattle.lattice_core.specs.declared.limits.TheConstants.{MOST_SYSTEMS, MOST_WEIGHTS, MOST_DEGREE, MOST_DEGREE_PRODUCT}
use Rattle.lattice_core.specs.declared.weights.WeightSystem.{WeightSystem}

-- a degree and a list of weights: what contracts see of a weight system
pub record Weighted : Type 0 where
  pub degree : ℕ
  pub weights : List ℕ

abbrev pub weighted : WeightSystem → Weighted
weighted system = record { degree = system.degree; weights = system.weights.items }

-- what contracts see of a list of weight systems
abbrev pub weighted_all : List WeightSystem → List Weighted
weighted_all systems = map weighted systems

-- the weighted degree of an integer vector: the sum of its entries, each times its weight
abbrev pub weighted_degree : Weighted → List ℤ → ℤ
weighted_degree system x = dot (map pos system.weights) x

-- the number of weights of the first system, which is that of all systems of a line; 0 where there is no system
abbrev pub columns_of : List Weighted → ℕ
columns_of [] = 0
columns_of (system ∷ systems) = length system.weights

-- x is in the weight lattice of the systems: an integer vector with an entry for each weight, whose weighted degrees are 0
pub record IsInLattice (systems : List Weighted) (x : List ℤ) : Type 0 where
  pub columns : length x ≡ columns_of systems
  pub vanish : All (λ s. weighted_degree s x ≡ pos 0) systems

-- a is an exponent vector of the systems: a monomial whose weighted degrees are the systems' degrees
pub record IsMonomial (systems : List Weighted) (a : List ℤ) : Type 0 where
  pub columns : length a ≡ columns_of systems
  pub nonnegative : All (λ e. pos 0 ≤ℤ e) a
  pub degrees : All (λ s. weighted_degree s a ≡ pos s.degree) systems

-- the point of an exponent vector: a - (1, .., 1)
abbrev pub monomial_point : List ℤ → List ℤ
monomial_point a = map (λ e. e -ℤ pos 1) a

-- the sum of numbers
abbrev pub total : List ℕ → ℕ
total [] = 0
total (w ∷ weights) = w + total weights

-- the product of all degrees
abbrev pub degree_product : List Weighted → ℕ
degree_product [] = 1
degree_product (system ∷ systems) = system.degree * degree_product systems

-- a system with so many weights, whose sum is the degree, which isn't 0
pub record IsSummed (count : ℕ) (system : Weighted) : Type 0 where
  pub columns : length system.weights ≡ count
  pub sum : total system.weights ≡ system.degree
  pub positive : 1 ≤ system.degree

-- some system has a weight at the place that isn't 0
pub record HasWeightAt (systems : List Weighted) (place : ℕ) : Type 0 where
  pub system : Weighted
  pub member : Contains systems system
  pub positive : 1 ≤ slice_index_or system.weights place 0

-- the systems of a weight line: at least one, each with as many weights as the first, and no place at which all weights are 0
pub record AreWellFormed (systems : List Weighted) : Type 0 where
  pub some : 1 ≤ length systems
  pub summed : All (IsSummed (columns_of systems)) systems
  pub used : (place : ℕ) → place < columns_of systems → HasWeightAt systems place

-- no more systems, weights of each, and degrees than the limits, and no larger product of all degrees
pub record AreWithinLimits (systems : List Weighted) : Type 0 where
  pub few : length systems ≤ MOST_SYSTEMS
  pub weights : columns_of systems ≤ MOST_WEIGHTS
  pub degrees : All (λ s. s.degree ≤ MOST_DEGREE) systems
  pub product : degree_product systems ≤ MOST_DEGREE_PRODUCT
