-- The stringy numbers of ranked faces with their numbers of lattice points (alg-geom/9509009; that only an order, ranks and numbers of points
-- go in, is this project's own).
use Rattle.std.specs.Prelude.{◌≡◌, ℕ, ◌+◌, ◌-◌, ◌<◌, Bool, true, List, ℤ, pos, ◌*ℤ◌}
use Rattle.std.specs.List.{Contains, range_with_len}
use Rattle.polynomial_theory.specs.Sums.{sum_over, sign}
use Rattle.polynomial_theory.specs.Series.{Series}
use Rattle.stringy_theory.specs.Eulerian.{Order, strictly, g, g_dual}
use Rattle.stringy_theory.specs.HStar.{h_star}
use Rattle.stringy_theory.specs.FaceSeries.{FaceSeries}
use Rattle.stringy_theory.specs.Stringy.{numerator}

-- faces with an order, their ranks and that of the top, and the numbers of lattice points of each degree on both sides
pub record CountedFaces (X : Type 0) : Type 0 where
  pub faces : List X
  pub below : X → X → Bool
  pub rank : X → ℕ
  pub top : ℕ
  pub l : X → Series
  pub l_dual : X → Series

-- the order alone
abbrev pub order_of : {X : Type 0} → CountedFaces X → Order X
order_of c = record { members = c.faces; below = c.below; gap = λ x y. c.rank y - c.rank x }

-- h* by the rank on one side and by what is left to the top on the other, and G and G' of the order
abbrev pub series_of : {X : Type 0} → CountedFaces X → FaceSeries X
series_of c = record {
  faces = c.faces;
  below = c.below;
  rank = c.rank;
  h = λ x. h_star (c.rank x) (c.l x);
  h_dual = λ y. h_star (c.top - c.rank y) (c.l_dual y);
  g = g (order_of c);
  g_dual = g_dual (order_of c);
}

-- e(p,q) in codimension r
abbrev pub stringy_number : {X : Type 0} → CountedFaces X → ℕ → ℕ → ℕ → ℤ
stringy_number c r p q = numerator (series_of c) (pos (p + r)) (q + r)

-- h(p,q) = (-1)^(p+q) e(p,q)
abbrev pub hodge_number : {X : Type 0} → CountedFaces X → ℕ → ℕ → ℕ → ℤ
hodge_number c r p q = sign (p + q) *ℤ stringy_number c r p q

-- the Euler number: the sum of all e(p,q) with p and q from 0 to k
abbrev pub euler_number : {X : Type 0} → CountedFaces X → ℕ → ℕ → ℤ
euler_number c r k = sum_over (range_with_len 0 (k + 1)) (λ p. sum_over (range_with_len 0 (k + 1)) (λ q. stringy_number c r p q))

-- an order along which ranks rise
pub record HasRisingRanks {X : Type 0} (c : CountedFaces X) : Type 0 where
  pub reflexive : (x : X) → Contains c.faces x → c.below x x ≡ true
  pub antisymmetric : (x y : X) → Contains c.faces x → Contains c.faces y → c.below x y ≡ true → c.below y x ≡ true → x ≡ y
  pub transitive : (x y z : X) → Contains c.faces x → Contains c.faces y → Contains c.faces z → c.below x y ≡ true → c.below y z ≡ true → c.below x z ≡ true
  pub rises : (x y : X) → Contains c.faces x → Contains c.faces y → strictly (order_of c) x y ≡ true → c.rank x < c.rank y
