-- The search for the next exponent vector, over vectors of natural numbers. This project's own.
use Rattle.std.specs.Prelude.{◌≡◌, ℕ, ◌≤◌, Bool, true, false, List, length, map, pos, slice_index_or}
use Rattle.std.specs.List.{All}
use Rattle.lattice_theory.specs.Grid.{AgreesTo, LexAtMost}
use Rattle.lattice_core.specs.Weights.{Weighted, columns_of}
use Rattle.weight_points.specs.steps.Waits.{spent}

-- the exponents take the whole degree of each system
pub record Solves (systems : List Weighted) (a : List ℕ) : Type 0 where
  pub columns : length a ≡ columns_of systems
  pub degrees : All (λ s. spent s.weights a ≡ s.degree) systems

-- the exponent at a place
abbrev pub exponent : List ℕ → ℕ → ℕ
exponent a i = slice_index_or a i 0

-- from the place on all exponents are 0
abbrev pub IsZeroFrom : ℕ → List ℕ → Type 0
IsZeroFrom place a = (i : ℕ) → place ≤ i → exponent a i ≡ 0

-- b begins like a up to the place, and has at least `from` there
pub record IsCompletion (systems : List Weighted) (place from : ℕ) (a b : List ℕ) : Type 0 where
  pub solves : Solves systems b
  pub agrees : AgreesTo place (map pos a) (map pos b)
  pub above : from ≤ exponent b place

-- with the answer true `new` is the first completion of `old`; with the answer false there is none, and `new` is `old`
abbrev pub Completes : List Weighted → ℕ → ℕ → List ℕ → List ℕ → Bool → Type 0
Completes systems place from old new true = IsCompletion systems place from old new
    × ((b : List ℕ) → IsCompletion systems place from old b → LexAtMost (map pos new) (map pos b))
Completes systems place from old new false = (new ≡ old) × ((b : List ℕ) → IsCompletion systems place from old b → ⊥)
