-- The laws of this crate: what its public function without parameters states. This project's own.
use Rattle.std.specs.Prelude.{ℕ, ◌+◌, List, [], ◌∷◌, ◌++◌, ℤ, pos, ◌≤ℤ◌}
use Rattle.std.specs.List.{All}
use Rattle.lattice_core.specs.Weights.{Weighted, IsMonomial, AreWellFormed, AreWithinLimits}
use Rattle.lattice_core.specs.declared.limits.TheConstants.{MOST_DEGREE}
use Rattle.weight_points.specs.Members.{AreMonomials, IsMonomialAt, HasMonomials, AreFirst}

-- at the start nothing is given
abbrev pub NoneAreFirst : Type 0
NoneAreFirst = (systems : List Weighted) → AreWellFormed systems → AreWithinLimits systems → AreFirst systems 0 []

-- the first ones and the next one are the first ones, with one more
abbrev pub FirstAndNextAreFirst : Type 0
FirstAndNextAreFirst = (systems : List Weighted) (count : ℕ) (xs : List (List ℤ)) (a : List ℤ)
    → AreFirst systems count xs → IsMonomialAt systems count a → AreFirst systems (count + 1) (xs ++ a ∷ [])

-- the first ones, where there are no more, are all
abbrev pub FirstAreAll : Type 0
FirstAreAll = (systems : List Weighted) (count : ℕ) (xs : List (List ℤ))
    → AreFirst systems count xs → HasMonomials systems count → AreMonomials systems xs

-- each entry of an exponent vector is from 0 to the largest degree
abbrev pub ExponentsAreSmall : Type 0
ExponentsAreSmall = (systems : List Weighted) (a : List ℤ) → AreWellFormed systems → AreWithinLimits systems → IsMonomial systems a
    → All (λ e. (pos 0 ≤ℤ e) × (e ≤ℤ pos MOST_DEGREE)) a
