-- The laws of a search, as statements. This project's own.
use Rattle.std.specs.Prelude.{ℕ, ◌+◌, List, [], ◌∷◌, ◌++◌}
use Rattle.lattice_core.specs.Weights.{Weighted}
use Rattle.interior_point_theory.specs.Interior.{AreSystemsOfRange}
use Rattle.weight_enum.specs.Searched.{IsSystemAt, HasSystems, AreFirstSystems}

-- at the start nothing is given
abbrev pub NoSystemsAreFirst : Type 0
NoSystemsAreFirst = (dim low high : ℕ) → AreFirstSystems dim low high 0 []

-- the first systems and the next one are the first ones, with one more
abbrev pub FirstAndNextSystemAreFirst : Type 0
FirstAndNextSystemAreFirst = (dim low high count : ℕ) (xs : List Weighted) (s : Weighted) → AreFirstSystems dim low high count xs
    → IsSystemAt dim low high count s → AreFirstSystems dim low high (count + 1) (xs ++ s ∷ [])

-- the first systems, where there are no more, are all
abbrev pub FirstSystemsAreAll : Type 0
FirstSystemsAreAll = (dim low high count : ℕ) (xs : List Weighted) → AreFirstSystems dim low high count xs → HasSystems dim low high count
    → AreSystemsOfRange dim low high xs
