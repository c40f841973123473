-- The list of all exponent vectors by trying all vectors with entries up to the limit on degrees, and how many of it come up to a vector.
-- This project's own.
use Rattle.std.specs.Prelude.{ℕ, Bool, cond, ◌==◌, List, length, replicate, ℤ, pos, ◌-ℤ◌, nat_abs}
use Rattle.std.specs.List.{filter, list_all}
use Rattle.lattice_theory.specs.Grid.{grid, up_to}
use Rattle.lattice_core.specs.declared.limits.TheConstants.{MOST_DEGREE}
use Rattle.lattice_core.specs.Weights.{Weighted, weighted_degree, columns_of}

-- whether a vector has the degree of each system
unfoldable pub solves : List Weighted → List ℤ → Bool
solves systems x = list_all (λ s. nat_abs (weighted_degree s x -ℤ pos s.degree) == 0) systems

-- all vectors with entries from 0 to the greatest degree that do
unfoldable pub solutions : List Weighted → List (List ℤ)
solutions systems = filter (solves systems)
    (grid (replicate (columns_of systems) (pos 0)) (replicate (columns_of systems) (pos MOST_DEGREE)))

-- how many exponent vectors of the systems were given: all, where the walk is finished, and otherwise those up to the last one
unfoldable pub given_of : List Weighted → List ℤ → Bool → ℕ
given_of systems x finished = cond finished (length (solutions systems)) (length (up_to x (solutions systems)))
