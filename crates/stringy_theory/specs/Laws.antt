-- The laws of stringy numbers, as statements.
use Rattle.std.specs.Prelude.{◌≡◌, ℕ, ◌==◌, ◌-◌, ◌*◌, ◌^◌, ◌<◌, ◌≤◌, true, ℤ, pos, ◌*ℤ◌, nat_abs, suc, ◌≤ℤ◌, List}
use Rattle.std.specs.List.{Contains, filter, range_with_len}
use Rattle.polynomial_theory.specs.Sums.{sum_over, sign}
use Rattle.polynomial_theory.specs.Series.{Series, product, power, t_minus_1, HasNoPowerBelow, HasNoPowerAbove, times_at_ratio, times_at_product, power_of_minus_u}
use Rattle.stringy_theory.specs.Eulerian.{Order, members_above, sum_above, IsGraded, IsG, IsGDual, g, g_dual}
use Rattle.stringy_theory.specs.HStar.{alternating, differences_of}
use Rattle.stringy_theory.specs.FaceSeries.{FaceSeries, IsRanked, HaveSmallDegrees, HaveSmallDualDegrees, HaveSmallCoefficients, faces_from}
use Rattle.stringy_theory.specs.Stringy.{numerator, b, s_tilde, s_tilde_dual}
use Rattle.face_theory.specs.Faces.{TightRelation}
use Rattle.face_theory.specs.Ranks.{RankedFace}
use Rattle.stringy_theory.specs.RankedTables.{IsRankedTable, numbered_faces}
use Rattle.stringy_theory.specs.CountedFaces.{CountedFaces, order_of, series_of, HasRisingRanks}

-- the numerator is the sum over X <= Y of (-1)^(rank Y - rank X) h*_X(v/u) h*'_Y(uv) B[X,Y]
abbrev pub NumeratorByPairs : Type 0
NumeratorByPairs = (d : FaceSeries ℕ) → IsRanked d → (p : ℤ) (q : ℕ)
    → sum_over d.faces (λ x. sum_over (faces_from d x) (λ y.
    sign (d.rank y - d.rank x) *ℤ times_at_ratio (d.h x) (times_at_product (d.h_dual y) (b d x y)) p q))
    ≡ numerator d p q

-- the numerator is the sum over F of S~_F(v/u) S~_F(uv) (-u)^(rank F), the second on the other side
abbrev pub NumeratorByFaces : Type 0
NumeratorByFaces = (d : FaceSeries ℕ) → IsRanked d → (p : ℤ) (q : ℕ)
    → sum_over d.faces (λ f. times_at_ratio (s_tilde d f) (times_at_product (s_tilde_dual d f) (power_of_minus_u (d.rank f))) p q)
    ≡ numerator d p q

-- G meets its equations
abbrev pub GExists : Type 0
GExists = (o : Order ℕ) → IsGraded o → IsG o (g o) × IsGDual o (g_dual o)

-- and nothing else does
abbrev pub GIsSingle : Type 0
GIsSingle = (o : Order ℕ) → IsGraded o → (G : ℕ → ℕ → Series) → IsG o G → (x y : ℕ) → Contains o.members x → Contains o.members y
    → o.below x y ≡ true → (k : ℕ) → G x y k ≡ g o x y k

-- nor anything but G'
abbrev pub GDualIsSingle : Type 0
GDualIsSingle = (o : Order ℕ) → IsGraded o → (G : ℕ → ℕ → Series) → IsGDual o G → (x y : ℕ) → Contains o.members x → Contains o.members y
    → o.below x y ≡ true → (k : ℕ) → G x y k ≡ g_dual o x y k

-- G[x,y] has no degree of half the gap or more, but for its 1
abbrev pub GHasSmallDegree : Type 0
GHasSmallDegree = (o : Order ℕ) → IsGraded o → (x y : ℕ) → Contains o.members x → Contains o.members y → o.below x y ≡ true → (k : ℕ) → 0 < k
    → o.gap x y ≤ 2 * k → g o x y k ≡ pos 0

-- h* is what k differences leave
abbrev pub HStarByDifferences : Type 0
HStarByDifferences = (k : ℕ) (l : Series) (i : ℕ) → alternating k l i ≡ differences_of k l i

-- where h*_X and G[X,F] are small, no term has a negative power of u
abbrev pub NoNegativePower : Type 0
NoNegativePower = (d : FaceSeries ℕ) → IsRanked d → HaveSmallDegrees d
    → HasNoPowerBelow (pos 0) (numerator d)
    × ((x y : ℕ) → Contains d.faces x → HasNoPowerBelow (pos 0) (b d x y))

-- no term has a power of u or of v above the rank of the top
abbrev pub NoLargePower : Type 0
NoLargePower = (d : FaceSeries ℕ) → IsRanked d → HaveSmallDegrees d → (top : ℕ) → HaveSmallDualDegrees top d → HasNoPowerAbove top top (numerator d)

-- each of the differences is at most 2^k times the largest number
abbrev pub DifferencesAreBounded : Type 0
DifferencesAreBounded = (k m : ℕ) (l : Series) → ((s : ℕ) → nat_abs (l s) ≤ m) → (i : ℕ) → nat_abs (differences_of k l i) ≤ 2 ^ k * m

-- and half of that where no number is negative
abbrev pub CountsAreBounded : Type 0
CountsAreBounded = (k m : ℕ) (l : Series) → ((s : ℕ) → pos 0 ≤ℤ l s) → ((s : ℕ) → nat_abs (l s) ≤ m) → (i : ℕ) → nat_abs (differences_of (suc k) l i) ≤ 2 ^ k * m

-- an order along which ranks rise is all that the laws suppose of faces with numbers of points
abbrev pub RanksSuffice : Type 0
RanksSuffice = (c : CountedFaces ℕ) → HasRisingRanks c
    → IsRanked (series_of c) × IsGraded (order_of c) × HaveSmallDegrees (series_of c)
    × (((y : ℕ) → Contains c.faces y → c.rank y ≤ c.top) → HaveSmallDualDegrees c.top (series_of c))

-- and faces of a relation with their ranks have such an order
abbrev pub RankedTableSuffices : Type 0
RankedTableSuffices = (R : TightRelation) (table : List RankedFace) → IsRankedTable R table
    → (top : ℕ) (l l_dual : ℕ → Series) → HasRisingRanks (numbered_faces table top l l_dual)

-- where coefficients are small, those of S~ are at most 2^54 in size, on both sides
abbrev pub STildeIsSmall : Type 0
STildeIsSmall = (d : FaceSeries ℕ) → HaveSmallCoefficients d → (f : ℕ) → Contains d.faces f → (k : ℕ)
    → (nat_abs (s_tilde d f k) ≤ 2 ^ 54) × (nat_abs (s_tilde_dual d f k) ≤ 2 ^ 54)

-- and those of the numerator at most 2^120
abbrev pub NumeratorIsSmall : Type 0
NumeratorIsSmall = (d : FaceSeries ℕ) → IsRanked d → HaveSmallCoefficients d → (p q : ℕ) → nat_abs (numerator d (pos p) q) ≤ 2 ^ 120

-- the sum that G is made of is a sum, gap by gap, of a power of t - 1 times the sum of the G of what is so far above
abbrev pub GByGaps : Type 0
GByGaps = (o : Order ℕ) (G : ℕ → ℕ → Series) (x y n : ℕ) → ((z : ℕ) → Contains (members_above o x y) z → o.gap x z - 1 < n) → (k : ℕ)
    → sum_above o G x y k ≡ sum_over (range_with_len 0 n) (λ r. product (power t_minus_1 r)
    (λ j. sum_over (filter (λ z. (o.gap x z - 1) == r) (members_above o x y)) (λ z. G z y j)) k)
