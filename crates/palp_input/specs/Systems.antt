-- The weight systems of a line of numbers. Weight lines follow PALP's manual, arXiv:1205.4147, section 3;
-- where a system ends, and the faults, are this project's own.
use Rattle.std.specs.Prelude.{◌++◌, ℕ, ◌+◌, ◌-◌, Bool, List, [], ◌∷◌, map, length, zero, suc, Option, Some, None, if◌then◌else◌, ◌==◌, nat_le}
use Rattle.std.specs.List.{flat_map, list_all}
use Rattle.lattice_core.specs.Weights.{Weighted}
use Rattle.palp_input.specs.declared.lines.LineNumber.{LineNumber}

-- the numbers in front that are weights, and the numbers behind them
pub record Taken : Type 0 where
  pub weights : List LineNumber
  pub rest : List LineNumber

abbrev pub before_taken : LineNumber → Option Taken → Option Taken
before_taken number None = None
before_taken number (Some taken) = Some (record { weights = number ∷ taken.weights; rest = taken.rest })

-- weights until their sum reaches the degree, then all zeros that follow directly; none where a
-- weight makes the sum exceed the degree, or the numbers end before it is reached
abbrev pub take_weights : ℕ → List LineNumber → Option Taken
take_weights degree [] = if degree == 0 then Some (record { weights = []; rest = [] }) else None
take_weights degree (number ∷ numbers) =
    if nat_le number.value degree then before_taken number (take_weights (degree - number.value) numbers)
    else (if degree == 0 then Some (record { weights = []; rest = number ∷ numbers }) else None)

-- a system with the places of its numbers
pub record PlacedSystem : Type 0 where
  pub degree : LineNumber
  pub weights : List LineNumber

-- the systems, or the place of the degree of the first one whose sum is wrong
pub data SystemsRead : Type 0 where
  Summed : List PlacedSystem → SystemsRead
  WrongSum : ℕ → SystemsRead

abbrev pub before_systems : PlacedSystem → SystemsRead → SystemsRead
before_systems system (Summed systems) = Summed (system ∷ systems)
before_systems system (WrongSum at) = WrongSum at

-- a degree and its weights, and then the systems behind them: at most as many as there are numbers
abbrev pub systems_read : ℕ → List LineNumber → SystemsRead
systems_read most [] = Summed []
systems_read zero (degree ∷ numbers) = Summed []
systems_read (suc most) (degree ∷ numbers) = elim (take_weights degree.value numbers) [
  | None ↦ WrongSum degree.at
  | Some taken ↦ before_systems (record { degree = degree; weights = taken.weights }) (systems_read most taken.rest)
]

-- the degree of the first system with another number of weights
abbrev pub other_length : ℕ → List PlacedSystem → Option ℕ
other_length count [] = None
other_length count (system ∷ systems) =
    if length system.weights == count then other_length count systems else Some system.degree.at

-- the weight at a place, counted from 0
abbrev pub weight_at : ℕ → List LineNumber → ℕ
weight_at place [] = 0
weight_at zero (number ∷ numbers) = number.value
weight_at (suc place) (number ∷ numbers) = weight_at place numbers

-- the weight at a place is 0 in every system
abbrev pub is_zero_column : ℕ → List PlacedSystem → Bool
is_zero_column place systems = list_all (λ (s : PlacedSystem). weight_at place s.weights == 0) systems

-- the first of the weights, from a place on, that is 0 at the same place in every system
abbrev pub zero_column : ℕ → List LineNumber → List PlacedSystem → Option ℕ
zero_column place [] systems = None
zero_column place (number ∷ numbers) systems =
    if is_zero_column place systems then Some number.at
    else zero_column (place + 1) numbers systems

abbrev pub weighted_of : PlacedSystem → Weighted
weighted_of system = record { degree = system.degree.value; weights = map (λ (n : LineNumber). n.value) system.weights }

-- the numbers that write systems: one system after another, its degree and then its weights
abbrev pub numbers_of : List PlacedSystem → List LineNumber
numbers_of [] = []
numbers_of (system ∷ systems) = system.degree ∷ (system.weights ++ numbers_of systems)

abbrev pub numbers_in : List Weighted → List ℕ
numbers_in systems = flat_map (λ (s : Weighted). s.degree ∷ s.weights) systems
