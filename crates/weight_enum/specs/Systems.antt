-- The interior-point systems of a degree. This project's own.
use Rattle.std.specs.Prelude.{◌≡◌, ℕ, List, length}
use Rattle.lattice_theory.specs.Order.{Lists}
use Rattle.lattice_core.specs.Weights.{Weighted}
use Rattle.interior_point_theory.specs.Interior.{SystemLess, IsInteriorPointSystem}

-- an interior-point system with so many weights and this degree
pub record IsSystemOfDegree (degree count : ℕ) (system : Weighted) : Type 0 where
  pub columns : length system.weights ≡ count
  pub degree_is : system.degree ≡ degree
  pub is_system : IsInteriorPointSystem system

-- all of them, each once, in order
abbrev pub AreSystemsOfDegree : ℕ → ℕ → List Weighted → Type 0
AreSystemsOfDegree degree count systems = Lists SystemLess (IsSystemOfDegree degree count) systems
