-- Tests, which compute, of systems that are well formed and within the limits; the crate's own tests are stated with them.
-- This project's own.
use Rattle.std.specs.Prelude.{ℕ, ◌+◌, ◌==◌, Bool, true, ◌&&◌, nat_lt, List, [], ◌∷◌, length}
use Rattle.lattice_core.specs.Weights.{total}
use Rattle.lattice_core.specs.declared.limits.TheConstants.{MOST_WEIGHTS, MOST_DEGREE}

-- whether all weights are positive
abbrev pub are_positive : List ℕ → Bool
are_positive [] = true
are_positive (w ∷ weights) = nat_lt 0 w && are_positive weights

-- whether there are n weights, whose sum is the degree, which is from 1 to the largest one
abbrev pub is_summed : ℕ → ℕ → List ℕ → Bool
is_summed n degree weights = (length weights == n) && ((total weights == degree) && (nat_lt 0 degree && nat_lt degree (MOST_DEGREE + 1)))

-- whether there are weights, from 1 to the most, all of them positive, whose sum is the degree
abbrev pub is_plain : ℕ → List ℕ → Bool
is_plain degree weights = are_positive weights
    && (is_summed (length weights) degree weights && (nat_lt 0 (length weights) && nat_lt (length weights) (MOST_WEIGHTS + 1)))
