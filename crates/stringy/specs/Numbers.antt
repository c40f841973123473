-- What contracts see of stringy numbers, and which numbers they tell (alg-geom/9509009).
use Rattle.std.specs.Prelude.{ℕ, ◌+◌, ◌-◌, ◌^◌, ◌==◌, ◌≤◌, cond, List, [], ◌∷◌, map, flat_map, ℤ, pos, ◌*ℤ◌, nat_abs, slice_index_or}
use Rattle.std.specs.List.{range_with_len}
use Rattle.polynomial_theory.specs.Sums.{sum_over, sign}
use Rattle.polynomial_theory.specs.Series.{Series}
use Rattle.small_poly.specs.Tables.{laurent_of}

-- the largest p and q, the codimension r, and the coefficients of the numerator, that of u^i v^j at place 17 i + j
pub record EState : Type 0 where
  pub dim : ℕ
  pub codim : ℕ
  pub numerator : List ℤ

-- e(p,q): the coefficient of u^(p+r) v^(q+r)
abbrev pub number_at : EState → ℕ → ℕ → ℤ
number_at s p q = laurent_of s.numerator (pos (p + s.codim)) (q + s.codim)

-- h(p,q) = (-1)^(p+q) e(p,q)
abbrev pub hodge_at : EState → ℕ → ℕ → ℤ
hodge_at s p q = sign (p + q) *ℤ number_at s p q

-- the Euler number: the sum of all e(p,q) with p and q from 0 to the largest
abbrev pub line_sum : EState → ℕ → ℤ
line_sum s p = sum_over (range_with_len 0 (s.dim + 1)) (number_at s p)

abbrev pub euler_of : EState → ℤ
euler_of s = sum_over (range_with_len 0 (s.dim + 1)) (line_sum s)

-- numbers that can be added up
pub record AreSmallNumbers (s : EState) : Type 0 where
  pub dim : s.dim ≤ 6
  pub codim : s.codim ≤ 8
  pub numbers : (p q : ℕ) → nat_abs (laurent_of s.numerator (pos p) q) ≤ 2 ^ 120

-- the series of some numbers, in which those that are missing are 0
abbrev pub series_from : List ℕ → Series
series_from numbers s = pos (slice_index_or numbers s 0)

-- the Hodge numbers h(p,0) to h(p,k), where k is the largest; all of them, p by p
abbrev pub hodge_line : EState → ℕ → List ℤ
hodge_line s p = map (hodge_at s p) (range_with_len 0 (s.dim + 1))

abbrev pub hodge_lines : EState → List ℤ
hodge_lines s = flat_map (hodge_line s) (range_with_len 0 (s.dim + 1))

-- h(p,1)
abbrev pub hodge_above : EState → ℕ → ℤ
hodge_above s p = hodge_at s p 1

-- those that are told in one line: h(1,0) alone where the largest is 1, and otherwise h(p,1) for p from 1 to the largest but one
abbrev pub first_numbers : EState → List ℤ
first_numbers s = cond (s.dim == 1) (hodge_at s 1 0 ∷ []) (map (hodge_above s) (range_with_len 1 (s.dim - 1)))
