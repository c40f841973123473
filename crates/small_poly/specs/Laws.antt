-- The laws of what products and terms ask, as statements.
use Rattle.std.specs.Prelude.{ℕ, ◌+◌, ◌^◌, ◌≤◌, ℤ, pos, ◌*ℤ◌, nat_abs}
use Rattle.polynomial_theory.specs.Series.{Series, LaurentSeries, HasDegreeAtMost, HasNoPowerBelow, HasNoPowerAbove}
use Rattle.small_poly.specs.Sizes.{HasSmallSums, HasSmallTerms}
use Rattle.small_poly.specs.Tables.{term}

-- where A has no degree above 8, and each product of a coefficient of A and one of B is at most 2^122 in size, the sums of A B are small
abbrev pub SumsAreSmall : Type 0
SumsAreSmall = (A B : Series) → HasDegreeAtMost 8 A → ((a b : ℕ) → nat_abs (A a *ℤ B b) ≤ 2 ^ 122) → HasSmallSums A B

-- and so are those of A(u^s v) f
abbrev pub TermsAreSmall : Type 0
TermsAreSmall = (s : ℤ) (A : Series) (f : LaurentSeries) → HasDegreeAtMost 8 A → ((a : ℕ) (p : ℤ) (q : ℕ) → nat_abs (A a *ℤ f p q) ≤ 2 ^ 122) → HasSmallTerms s A f

-- a term fits where its degrees do
abbrev pub TermsFit : Type 0
TermsFit = (c : ℤ) (r m n : ℕ) (A B : Series) → HasDegreeAtMost m A → HasDegreeAtMost n B → m ≤ r → r + n ≤ 16 → m + n ≤ 16
    → HasNoPowerBelow (pos 0) (term c r A B) × HasNoPowerAbove 16 16 (term c r A B)
