-- What the steps that read systems answer, which only the code and its proofs use: what they read is
-- in Systems. This project's own.
use Rattle.std.specs.Prelude.{◌≡◌, ℕ, ◌≤◌, List, map, length, drop, slice_range, Some}
use Rattle.palp_input.specs.declared.lines.LineNumber.{LineNumber}
use Rattle.palp_input.specs.declared.systems.PlacedSystem.{PlacedSystem as KeptSystem}
use Rattle.palp_input.specs.declared.systems.Systems.{Systems}
use Rattle.palp_input.specs.declared.systems.Systems.TheVariants.{Summed as KeptSummed, WrongSum as KeptWrongSum}
use Rattle.palp_input.specs.Systems.{take_weights, PlacedSystem, SystemsRead, Summed, WrongSum}

-- what the code keeps, as contracts see it
abbrev pub placed_of : KeptSystem → PlacedSystem
placed_of system = record { degree = system.degree; weights = system.weights.now }

abbrev pub systems_read_of : Systems → SystemsRead
systems_read_of (KeptSummed systems) = Summed (map placed_of systems.items)
systems_read_of (KeptWrongSum at) = WrongSum at

-- the weights from a place up to another are taken, and the numbers from there on are the rest
pub record TakesUpTo (numbers : List LineNumber) (from degree end : ℕ) : Type 0 where
  pub least : from ≤ end
  pub most : end ≤ length numbers
  pub taken : take_weights degree (drop from numbers) ≡ Some (record { weights = slice_range numbers from end; rest = drop end numbers })
