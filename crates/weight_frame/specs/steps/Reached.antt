-- How far the program has come with the recursion. This project's own.
use Rattle.std.specs.Prelude.{◌≡◌, ℕ, ◌^◌, ◌<◌, ◌≤◌, List, [], ◌∷◌, ◌++◌, length, ℤ, Option, None, Some}
use Rattle.lattice_theory.specs.Vector.{HaveDimension}
use Rattle.lattice_core.specs.Weights.{Weighted, total}
use Rattle.lattice_core.specs.declared.limits.TheConstants.{MOST_DEGREE, MOST_FRAME_ENTRY}
use Rattle.weight_frame.specs.Frame.{IsGreatestDivisor, Exchange, Exchanges, AreExchanged, AreUnitVectors, largest, AreWithinEntryLimit, IsFirstAboveLimit}

-- vectors of n entries within the limit
pub record AreSmallVectors (n : ℕ) (vectors : List (List ℤ)) : Type 0 where
  pub dimension : HaveDimension n vectors
  pub within : AreWithinEntryLimit vectors

-- a vector, if there is one, as a list
abbrev pub listed : Option (List ℤ) → List (List ℤ)
listed None = []
listed (Some k) = k ∷ []

-- the step at u of value v makes k, the next h and the divisor g, within the limit
pub record IsStep (n : ℕ) (u : List ℤ) (v : ℤ) (h : List ℤ) (after : ℕ) (k : List (List ℤ)) (next : List ℤ) (g : ℕ) : Type 0 where
  pub step : Exchange n u v h after g k next
  pub divisor : (values : List ℤ) → IsGreatestDivisor values after → IsGreatestDivisor (v ∷ values) g
  pub kept : AreWithinEntryLimit k
  pub last : largest next ≤ MOST_FRAME_ENTRY
  pub small : g < 2 ^ 55

-- the step at u makes a vector with an entry above the limit
pub record IsStepAbove (n : ℕ) (u : List ℤ) (v : ℤ) (h : List ℤ) (after told : ℕ) : Type 0 where
  pub k : List (List ℤ)
  pub next : List ℤ
  pub g : ℕ
  pub step : Exchange n u v h after g k next
  pub divisor : (values : List ℤ) → IsGreatestDivisor values after → IsGreatestDivisor (v ∷ values) g
  pub first : IsFirstAboveLimit (k ++ (next ∷ [])) told

-- what the system makes of the vectors us, within the limit
pub record IsReached (n : ℕ) (system : Weighted) (us kept : List (List ℤ)) (last : List ℤ) (divisor : ℕ) : Type 0 where
  pub made : List (List ℤ)
  pub exchanged : Exchanges n system us kept last divisor made
  pub within : AreWithinEntryLimit made
  pub small : AreSmallVectors n kept
  pub count : length kept ≤ length us
  pub dimension : length last ≡ n
  pub last_within : largest last ≤ MOST_FRAME_ENTRY
  pub small_divisor : divisor < 2 ^ 55

-- what the system makes of the vectors us has a vector above the limit
pub record IsAbove (n : ℕ) (system : Weighted) (us : List (List ℤ)) (told : ℕ) : Type 0 where
  pub kept : List (List ℤ)
  pub last : List ℤ
  pub divisor : ℕ
  pub made : List (List ℤ)
  pub exchanged : Exchanges n system us kept last divisor made
  pub first : IsFirstAboveLimit made told

-- what the systems, in order, make of the unit vectors, within the limit
pub record AreReached (n : ℕ) (systems : List Weighted) (vectors : List (List ℤ)) : Type 0 where
  pub units : List (List ℤ)
  pub are_units : AreUnitVectors n units
  pub made : List (List ℤ)
  pub exchanged : AreExchanged n systems units vectors made
  pub within : AreWithinEntryLimit made
  pub small : AreSmallVectors n vectors
  pub count : length vectors ≤ n

-- a system with n weights, whose sum is at most the largest degree
pub record IsUsable (n : ℕ) (system : Weighted) : Type 0 where
  pub columns : length system.weights ≡ n
  pub small : total system.weights ≤ MOST_DEGREE
