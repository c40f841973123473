-- h* of a face, from the numbers l(s) of lattice points of degree s.
use Rattle.std.specs.Prelude.{cond, ℕ, zero, suc, ◌+◌, nat_lt, max, pos, ◌-ℤ◌, ◌*ℤ◌}
use Rattle.polynomial_theory.specs.Sums.{sum_of_splits, sign}
use Rattle.polynomial_theory.specs.Series.{Series}

-- the binomial coefficient: k things taken j at a time
abbrev pub choose : ℕ → ℕ → ℕ
choose k zero = 1
choose zero (suc j) = 0
choose (suc k) (suc j) = choose k j + choose k (suc j)

-- the sum over s + j = i of (-1)^j C(k,j) l(s)
abbrev pub alternating : ℕ → Series → Series
alternating k l i = sum_of_splits i (λ s j. sign j *ℤ (pos (choose k j) *ℤ l s))

-- the coefficients of t^i for i from 0 to max(k-1,0); all others are 0
abbrev pub h_star : ℕ → Series → Series
h_star k l i = cond (nat_lt i (max k 1)) (alternating k l i) (pos 0)

-- each l(s) less the one before it
abbrev pub differences : Series → Series
differences l zero = l 0
differences l (suc s) = l (suc s) -ℤ l s

-- the same k times
abbrev pub differences_of : ℕ → Series → Series
differences_of zero l = l
differences_of (suc k) l = differences (differences_of k l)
