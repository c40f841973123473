-- Sums of powers of u and v by a list of coefficients. This project's own.
use Rattle.std.specs.Prelude.{ℕ, ◌+◌, ◌*◌, nat_lt, cond, Bool, List, ℤ, pos, negsuc}
use Rattle.lattice_theory.specs.Vector.{entry}
use Rattle.polynomial_theory.specs.Series.{Series, LaurentSeries, times_at_ratio, times_at_product, monomial}

-- the sum of powers that a list of 289 coefficients tells: that of u^i v^j, for i and j up to 16, stands at place 17 i + j
abbrev pub laurent_of : List ℤ → LaurentSeries
laurent_of xs (pos i) j = cond (nat_lt j 17) (entry xs (17 * i + j)) (pos 0)
laurent_of xs (negsuc i) j = pos 0

-- 1, or -1 where it is negative
abbrev pub unit_of : Bool → ℤ
unit_of negative = cond negative (negsuc 0) (pos 1)

-- c u^r A(v/u) B(uv)
abbrev pub term : ℤ → ℕ → Series → Series → LaurentSeries
term c r A B = times_at_ratio A (times_at_product B (monomial c r))

-- A(v/u) B(uv) f
abbrev pub times_both : Series → Series → LaurentSeries → LaurentSeries
times_both A B f = times_at_ratio A (times_at_product B f)
